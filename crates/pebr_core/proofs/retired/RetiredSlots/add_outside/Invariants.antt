use Rattle.std.proofs.Common.{◌≡◌, ℕ, ◌<◌, ◌≤◌, ◌||◌, length}
use Rattle.pebr_core.specs.State.{has}
use Rattle.pebr_core.specs.Marks.{given_marks}
use Rattle.pebr_core.proofs.retired.RetiredSlots.add_outside.Given as goal

-- the slots so far are added, the others as they were
abbrev pub invariant-loop-slot : goal.invariant-loop-slot
invariant-loop-slot l =
    (length l.marks ≡ length l.initial.marks)
    × ((k : ℕ) → k < l.slot → has l.marks k ≡ (has l.initial.marks k || has (given_marks l.self l.kept) k))
    × ((k : ℕ) → l.slot ≤ k → has l.marks k ≡ has l.initial.marks k)
