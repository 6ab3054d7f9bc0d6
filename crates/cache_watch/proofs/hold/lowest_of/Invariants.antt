use Rattle.std.proofs.Common.{ℕ, ◌<◌}
use Rattle.cache_face.specs.Choice.{HasKey, entry_at}
use Rattle.cache_watch.proofs.hold.lowest_of.Given as goal

abbrev pub invariant-loop-place : goal.invariant-loop-place
invariant-loop-place l = record {
  below : (lower : ℕ) → lower < l.place → ¬ (HasKey l.key) (entry_at l.entries lower);
}
