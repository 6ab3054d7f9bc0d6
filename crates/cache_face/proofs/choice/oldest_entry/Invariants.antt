use Rattle.std.proofs.Common.{◌≡◌, ℕ, ◌<◌, ◌≤◌, Some}
use Rattle.flow_parts.specs.declared.fragment.Fragment.{Fragment}
use Rattle.cache_face.specs.Choice.{entry_at}
use Rattle.cache_face.proofs.choice.oldest_entry.Given as goal

abbrev pub invariant-loop-place : goal.invariant-loop-place
invariant-loop-place l = record {
  started : 1 ≤ l.place;
  best : l.best < l.place;
  last : (old : Fragment) → entry_at l.entries l.best ≡ Some old → l.last ≡ old.last;
  least : (other : ℕ) (fragment : Fragment) → other < l.place → entry_at l.entries other ≡ Some fragment
      → l.last ≤ fragment.last;
  first : (lower : ℕ) (fragment : Fragment) → lower < l.best → entry_at l.entries lower ≡ Some fragment
      → l.last < fragment.last;
}
