-- The octets so far are added.
use Rattle.std.proofs.Common.{◌≡◌, ◌<◌, ◌≤◌, ℕ, length, get_or}
use Rattle.record_ledger.specs.Buckets.{AddUp}
use Rattle.record_ledger.proofs.slots.add_octets.Given as goal

abbrev pub invariant-loop-at : goal.invariant-loop-at
invariant-loop-at l = record {
  many : length l.counts ≡ length l.initial.counts;
  added : (i : ℕ) → i < l.at → AddUp (get_or l.initial.counts i 0) (get_or l.others i 0) (get_or l.counts i 0);
  left : (i : ℕ) → l.at ≤ i → get_or l.counts i 0 ≡ get_or l.initial.counts i 0;
}
