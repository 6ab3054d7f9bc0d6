use Rattle.std.proofs.Common.{◌≡◌, ℕ, ◌<◌, ◌≤◌, Some}
use Rattle.std.specs.Prelude.{map}
use Rattle.flow_parts.specs.declared.fragment.Fragment.{Fragment}
use Rattle.cache_face.specs.Choice.{entry_at}
use Rattle.cache_face.specs.Keeping.{entry_of}
use Rattle.cache_choice.proofs.by_words.oldest_content.Given as goal

abbrev pub invariant-loop-place : goal.invariant-loop-place
invariant-loop-place l = record {
  started : 1 ≤ l.place;
  best : l.best < l.place;
  last : (old : Fragment) → entry_at (map entry_of l.contents) l.best ≡ Some old → l.least ≡ old.last;
  least : (other : ℕ) (fragment : Fragment) → other < l.place
      → entry_at (map entry_of l.contents) other ≡ Some fragment → l.least ≤ fragment.last;
  first : (lower : ℕ) (fragment : Fragment) → lower < l.best
      → entry_at (map entry_of l.contents) lower ≡ Some fragment → l.least < fragment.last;
}
