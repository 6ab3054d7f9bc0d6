use mathlib.Core.Option.{none}
use Rattle.atomic_table.specs.Table.{step}
use Rattle.pebr_table.specs.Operations.{store}
use Rattle.pebr_table.specs.Tables.{table_of, me_of}
use Rattle.pebr_table.proofs.Recording.{recorded, stores_are}
use Rattle.pebr_table.proofs.table.Table.store.Goals as goal

pub store-requires : goal.store-requires
store-requires g c = (
  c.requires.0,
  c.requires.1,
  recorded (g.P.TableRule.holds c.args.self.now.inner.shared.key) (λ _. store c.args.word c.args.new) _ _ c.args.word _
      (λ _. c.args.new)
      (λ _. g.M.Play.then (step (table_of c.args.self.now).slots c.args.word c.args.new 0 none)
      (me_of c.args.seat.now) c.args.new)
      (stores_are c.args.word c.args.new) c.requires.2,
)
