use Rattle.std.proofs.Common.{ℕ, ◌<◌, ◌≤◌, [], get_or}
use Rattle.cache_face.specs.Keeping.{IsEmptyContent}
use Rattle.front_cache.proofs.table.next_open.Given as goal

abbrev pub invariant-loop-place : goal.invariant-loop-place
invariant-loop-place l = record {
  from : l.next ≤ l.place;
  empty : (k : ℕ) → l.next ≤ k → k < l.place → IsEmptyContent (get_or l.contents k []);
}
