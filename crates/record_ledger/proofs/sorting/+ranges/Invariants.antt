-- Each half has fewer ranges, and those of a range are not divided again.
use Rattle.std.proofs.Common.{◌+◌, length, cond}
use Rattle.record_ledger.proofs.sorting.+ranges.Given as goal

abbrev pub decreases-sort_in_turn : goal.decreases-sort_in_turn
decreases-sort_in_turn l = cond l.again 1000 0 + length l.starts.now + 1

abbrev pub decreases-sort_range : goal.decreases-sort_range
decreases-sort_range l = cond l.again 1000 0
