use Rattle.std.proofs.Common.{ℕ, ◌<◌, IsNone}
use Rattle.cache_face.specs.Choice.{entry_at}
use Rattle.cache_face.proofs.choice.lowest_empty.Given as goal

abbrev pub invariant-loop-place : goal.invariant-loop-place
invariant-loop-place l = record {
  below : (lower : ℕ) → lower < l.place → ¬ (IsNone) (entry_at l.entries lower);
}
