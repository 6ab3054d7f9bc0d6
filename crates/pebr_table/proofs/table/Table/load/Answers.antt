use mathlib.Core.Option.{none}
use Rattle.atomic_table.specs.Table.{step}
use Rattle.pebr_table.specs.Operations.{load}
use Rattle.pebr_table.specs.Tables.{table_of, me_of}
use Rattle.pebr_table.proofs.Recording.{recorded, loads_are}
use Rattle.pebr_table.proofs.table.Table.load.Goals as goal

pub load-requires : goal.load-requires
load-requires g c = (
  c.requires.0,
  c.requires.1,
  recorded (g.P.TableRule.holds c.args.self.now.inner.shared.key) (load c.args.word) _ _ c.args.word _ (λ n. n)
      (g.M.Play.then (step (table_of c.args.self.now).slots c.args.word 0 0 none) (me_of c.args.seat.now))
      (loads_are c.args.word) c.requires.2,
)
