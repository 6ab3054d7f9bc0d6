use Rattle.std.proofs.Common.{◌≡◌, ℕ, ◌<◌, ◌≤◌, get_or, length, map, []}
use Rattle.pebr_core.proofs.row.Grid.fill.Given as goal

-- the rows so far are filled, the others as they were
abbrev pub invariant-loop-row : goal.invariant-loop-row
invariant-loop-row g l = (length l.row-items ≡ length l.initial.row-items)
    × ((k : ℕ) → k < l.row-index → get_or l.row-items k [] ≡ map (λ _. l.value) (get_or l.initial.row-items k []))
    × ((k : ℕ) → l.row-index ≤ k → get_or l.row-items k [] ≡ get_or l.initial.row-items k [])
