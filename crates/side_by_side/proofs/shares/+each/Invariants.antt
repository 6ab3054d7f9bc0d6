-- Behind one item there is one item fewer.
use Rattle.std.proofs.Common.{◌+◌, ◌*◌, length}
use Rattle.side_by_side.proofs.shares.+each.Given as goal

abbrev pub decreases-start_each : goal.decreases-start_each
decreases-start_each g l = 4 * length l.items.now + 3

abbrev pub decreases-start_both : goal.decreases-start_both
decreases-start_both g l = 4 * length l.high.now + 5

abbrev pub decreases-start_both-right : goal.decreases-start_both-right
decreases-start_both-right g l = 4 * length l.high.now + 4
