-- Behind one share there are fewer items.
use Rattle.std.proofs.Common.{◌+◌, ◌*◌, length}
use Rattle.side_by_side.proofs.shares.+shares.Given as goal

abbrev pub decreases-start_shares : goal.decreases-start_shares
decreases-start_shares g l = 4 * length l.items.now + 3

abbrev pub decreases-share_both : goal.decreases-share_both
decreases-share_both g l = 4 * length l.high.now + 5

abbrev pub decreases-share_both-right : goal.decreases-share_both-right
decreases-share_both-right g l = 4 * length l.high.now + 4
