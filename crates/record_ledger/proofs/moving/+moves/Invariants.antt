-- Behind one share there are fewer buckets.
use Rattle.std.proofs.Common.{◌+◌, ◌*◌, length}
use Rattle.record_ledger.proofs.moving.+moves.Given as goal

abbrev pub decreases-move_shares : goal.decreases-move_shares
decreases-move_shares g l = 4 * length l.buckets.now + 3

abbrev pub decreases-move_both : goal.decreases-move_both
decreases-move_both g l = 4 * length l.high.now + 5

abbrev pub decreases-move_both-right : goal.decreases-move_both-right
decreases-move_both-right g l = 4 * length l.high.now + 4
