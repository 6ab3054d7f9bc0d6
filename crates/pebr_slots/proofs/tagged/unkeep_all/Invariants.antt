use Rattle.std.proofs.Common.{◌≡◌, ◌++◌, map, take, drop}
use Rattle.pebr_slots.specs.Shown.{unkept_entry}
use Rattle.pebr_slots.proofs.tagged.unkeep_all.Given as goal

abbrev pub invariant-loop-entry : goal.invariant-loop-entry
invariant-loop-entry l = l.tagged ≡ map unkept_entry (take l.entry-index l.initial.tagged)
    ++ drop l.entry-index l.initial.tagged
