use Rattle.side_by_side.proofs.Joined.{changes_each}
use Rattle.side_by_side.proofs.for_each_beside.Goals as goal

pub returns-clause-each : goal.returns-clause-each
returns-clause-each g c = changes_each g.F.Fn c.args.f.now _ _ c.start_each.ensures.each
