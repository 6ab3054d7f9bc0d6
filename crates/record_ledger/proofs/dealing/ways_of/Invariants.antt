-- The ways of the fragments so far.
use Rattle.std.proofs.Common.{◌≡◌, ◌≤◌, ◌<◌, ◌-◌, ℕ, List, Some, length}
use Rattle.std.specs.Prelude.{slice_get, slice_index_or}
use Rattle.flow_parts.specs.declared.fragment.Fragment.{Fragment}
use Rattle.record_ledger.specs.declared.dealing.Way.TheVariants.{Other}
use Rattle.record_ledger.specs.Buckets.{IsWay, marks_of}
use Rattle.record_ledger.proofs.dealing.ways_of.Given as goal

abbrev pub invariant-loop-at : goal.invariant-loop-at
invariant-loop-at l = record {
  many : length l.ways ≡ 16;
  low : l.from ≤ l.at;
  high : l.at ≤ l.end;
  each : (ends : List ℕ) → l.marks ≡ marks_of ends l.piece → (i : ℕ) (f : Fragment) → l.from ≤ i → i < l.at
      → slice_get l.piece i ≡ Some f → IsWay l.counts ends l.share f (slice_index_or l.ways (i - l.from) Other);
}
