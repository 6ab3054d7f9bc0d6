use Rattle.side_by_side.proofs.Joined.{changes_each}
use Rattle.side_by_side.proofs.for_each_mut.Goals as goal

pub returns : goal.returns
returns g c = changes_each g.F.Fn c.args.f.now _ _ c.share_out.ensures
