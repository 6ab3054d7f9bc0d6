use Rattle.std.proofs.Common.{◌≡◌, ◌≤◌, ℕ}
use Rattle.cache_face.specs.Keeping.{parts_in}
use Rattle.flow_cache.specs.Ending.{rows_at}
use Rattle.flow_cache.proofs.close.fragments_in.Given as goal

abbrev pub invariant-loop-root : goal.invariant-loop-root
invariant-loop-root l = record {
  low : l.root ≤ l.roots;
  parts : (sets seats : ℕ) → l.parts.items ≡ parts_in (rows_at sets seats l.words l.root);
}
