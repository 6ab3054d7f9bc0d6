use Rattle.std.proofs.Common.{◌≡◌, ◌≤◌, take, count_by}
use Rattle.pebr_core.specs.Marks.{given_marks}
use Rattle.pebr_core.proofs.retired.RetiredSlots.count_outside.Given as goal

-- the count so far
abbrev pub invariant-loop-slot : goal.invariant-loop-slot
invariant-loop-slot l = (l.count ≤ l.slot)
    × (l.count ≡ count_by (λ mark. mark) (take l.slot (given_marks l.self l.kept)))
