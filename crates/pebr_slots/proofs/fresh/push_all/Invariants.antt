use Rattle.std.specs.Prelude.{vec_capacity}
use Rattle.std.proofs.Common.{◌≡◌, ◌++◌, take}
use Rattle.pebr_slots.proofs.fresh.push_all.Given as goal

abbrev pub invariant-loop-slot : goal.invariant-loop-slot
invariant-loop-slot l = record {
  slots : l.fresh.items ≡ l.initial.fresh.items ++ take l.slot-index l.slots;
  room : vec_capacity l.fresh ≡ vec_capacity l.initial.fresh;
}
