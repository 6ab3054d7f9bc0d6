use Rattle.std.proofs.Common.{◌≡◌, ◌++◌, map, take, drop}
use Rattle.pebr_slots.specs.Shown.{kept_at}
use Rattle.pebr_slots.proofs.tagged.keep_slot.Given as goal

abbrev pub invariant-loop-entry : goal.invariant-loop-entry
invariant-loop-entry l = l.tagged ≡ map (kept_at l.slot) (take l.entry-index l.initial.tagged)
    ++ drop l.entry-index l.initial.tagged
