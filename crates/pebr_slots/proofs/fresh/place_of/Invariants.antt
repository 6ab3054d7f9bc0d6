use Rattle.std.proofs.Common.{◌≢◌, ◌<◌, ℕ, length, get_or}
use Rattle.pebr_slots.proofs.fresh.place_of.Given as goal

abbrev pub invariant-loop-place : goal.invariant-loop-place
invariant-loop-place l = record {
  inside : l.place < length l.fresh;
  past : (k : ℕ) → l.place < k → k < length l.fresh → get_or l.fresh k 0 ≢ l.slot;
}

abbrev pub decreases-loop-place : goal.decreases-loop-place
decreases-loop-place l = l.place
