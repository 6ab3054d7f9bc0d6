use Rattle.std.proofs.Common.{◌≡◌, drop}
use Rattle.pebr_core.proofs.Tags.{is_above_all}
use Rattle.pebr_core.proofs.retired.RetiredSlots.are_below.Given as goal

-- what is left decides
abbrev pub invariant-loop-slot : goal.invariant-loop-slot
invariant-loop-slot l = is_above_all l.epoch (drop l.slot-index l.slot-items) ≡ is_above_all l.epoch l.slot-items
