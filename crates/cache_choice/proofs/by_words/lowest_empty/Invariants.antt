use Rattle.std.proofs.Common.{ℕ, ◌<◌, IsNone}
use Rattle.std.specs.Prelude.{map}
use Rattle.cache_face.specs.Choice.{entry_at}
use Rattle.cache_face.specs.Keeping.{entry_of}
use Rattle.cache_choice.proofs.by_words.lowest_empty.Given as goal

abbrev pub invariant-loop-place : goal.invariant-loop-place
invariant-loop-place l = record {
  below : (lower : ℕ) → lower < l.place → ¬ (IsNone) (entry_at (map entry_of l.contents) lower);
}
