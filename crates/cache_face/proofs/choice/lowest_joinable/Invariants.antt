use Rattle.std.proofs.Common.{ℕ, ◌<◌}
use Rattle.cache_face.specs.Choice.{CanJoin, entry_at}
use Rattle.cache_face.proofs.choice.lowest_joinable.Given as goal

abbrev pub invariant-loop-place : goal.invariant-loop-place
invariant-loop-place l = record {
  below : (lower : ℕ) → lower < l.place → ¬ (CanJoin l.timeouts l.own) (entry_at l.entries lower);
}
