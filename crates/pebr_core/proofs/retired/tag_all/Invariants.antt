use Rattle.std.proofs.Common.{◌≡◌, ℕ, ◌<◌, ◌≤◌, get_or}
use Rattle.pebr_core.specs.declared.kinds.Retired.TheVariants as retire
use Rattle.pebr_core.specs.Steps.{tag_with}
use Rattle.pebr_core.proofs.retired.tag_all.Given as goal

-- the slots so far are tagged, the others as they were
abbrev pub invariant-loop-slot : goal.invariant-loop-slot
invariant-loop-slot l =
    ((k : ℕ) → k < l.slot-index → get_or l.slots k retire.No ≡ tag_with l.epoch (get_or l.initial.slots k retire.No))
    × ((k : ℕ) → l.slot-index ≤ k → get_or l.slots k retire.No ≡ get_or l.initial.slots k retire.No)
