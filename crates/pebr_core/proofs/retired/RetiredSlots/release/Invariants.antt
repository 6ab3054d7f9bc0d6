use Rattle.std.proofs.Common.{◌≡◌, ℕ, ◌<◌, ◌≤◌, cond, get_or, length}
use Rattle.pebr_core.specs.declared.kinds.Retired.TheVariants as retire
use Rattle.pebr_core.specs.State.{has}
use Rattle.pebr_core.specs.Marks.{given_marks}
use Rattle.pebr_core.proofs.retired.RetiredSlots.release.Given as goal

-- the slots so far are released, the others as they were
abbrev pub invariant-loop-slot : goal.invariant-loop-slot
invariant-loop-slot l =
    (length l.self ≡ length l.initial.self)
    × ((k : ℕ) → k < l.slot → get_or l.self k retire.No
    ≡ cond (has (given_marks l.initial.self l.kept) k) retire.No (get_or l.initial.self k retire.No))
    × ((k : ℕ) → l.slot ≤ k → get_or l.self k retire.No ≡ get_or l.initial.self k retire.No)
