use Rattle.std.proofs.Common.{eqb}
use prog.Atomic.{either}
use mathlib.Core.Option.{none}
use Rattle.atomic_table.specs.Table.{step}
use Rattle.pebr_table.specs.Operations.{exchange}
use Rattle.pebr_table.specs.Tables.{table_of, me_of}
use Rattle.pebr_table.proofs.Recording.{recorded, exchanges_are}
use Rattle.pebr_table.proofs.table.Table.exchange.Goals as goal

pub compare_exchange-requires : goal.compare_exchange-requires
compare_exchange-requires g c = (
  c.requires.0,
  c.requires.1,
  recorded (g.P.TableRule.holds c.args.self.now.inner.shared.key) (exchange c.args.word c.args.old c.args.new) _ _
      c.args.word _ (λ n. either (eqb n c.args.old) c.args.new n)
      (g.M.Play.then (step (table_of c.args.self.now).slots c.args.word c.args.old c.args.new none)
      (me_of c.args.seat.now))
      (exchanges_are c.args.word c.args.old c.args.new) c.requires.2,
)
