use Rattle.std.specs.Prelude.{vec_capacity}
use Rattle.std.specs.List.{filter}
use Rattle.std.proofs.Common.{◌≡◌, ◌++◌, take}
use Rattle.pebr_slots.specs.Shown.{slots_of, is_given}
use Rattle.pebr_slots.proofs.tagged.free_all.Given as goal

abbrev pub invariant-loop-entry : goal.invariant-loop-entry
invariant-loop-entry l = record {
  slots : l.fresh.items ≡ l.initial.fresh.items ++ slots_of (filter is_given (take l.entry-index l.tagged));
  room : vec_capacity l.fresh ≡ vec_capacity l.initial.fresh;
}
