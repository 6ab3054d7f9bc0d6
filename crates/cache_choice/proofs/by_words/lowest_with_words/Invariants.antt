use Rattle.std.proofs.Common.{ℕ, ◌<◌}
use Rattle.std.specs.Prelude.{map}
use Rattle.cache_face.specs.Choice.{HasKey, entry_at}
use Rattle.cache_face.specs.Keeping.{entry_of}
use Rattle.cache_choice.proofs.by_words.lowest_with_words.Given as goal

abbrev pub invariant-loop-place : goal.invariant-loop-place
invariant-loop-place l = record {
  below : (lower : ℕ) → lower < l.place → ¬ HasKey l._key (entry_at (map entry_of l.contents) lower);
}
