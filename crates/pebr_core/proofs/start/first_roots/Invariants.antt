use Rattle.std.proofs.Common.{◌≡◌, ℕ, ◌<◌, get_or, length}
use Rattle.pebr_core.proofs.start.first_roots.Given as goal

-- the roots so far hold their own numbers
abbrev pub invariant-loop-root : goal.invariant-loop-root
invariant-loop-root l = (length l.roots ≡ l.count) × ((k : ℕ) → k < l.root → get_or l.roots k 0 ≡ k)
