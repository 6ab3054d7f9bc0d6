use Rattle.std.proofs.Common.{take}
use Rattle.pebr_slots.specs.Shown.{IsNewest}
use Rattle.pebr_slots.proofs.tagged.newest_of.Given as goal

abbrev pub invariant-loop-entry : goal.invariant-loop-entry
invariant-loop-entry l = IsNewest l.newest (take l.entry-index l.tagged)
