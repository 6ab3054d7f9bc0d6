use Rattle.std.proofs.Common.{◌≡◌, false, take}
use Rattle.pebr_slots.specs.Shown.{is_in, slots_of}
use Rattle.pebr_slots.proofs.tagged.has_slot.Given as goal

abbrev pub invariant-loop-entry : goal.invariant-loop-entry
invariant-loop-entry l = is_in l.slot (slots_of (take l.entry-index l.tagged)) ≡ false
