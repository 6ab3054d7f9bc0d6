use Rattle.std.specs.Prelude.{vec_capacity}
use Rattle.std.proofs.Common.{◌≡◌, ◌++◌, map, take}
use Rattle.pebr_slots.specs.Shown.{tagged_with}
use Rattle.pebr_slots.proofs.tagged.tag_all.Given as goal

abbrev pub invariant-loop-slot : goal.invariant-loop-slot
invariant-loop-slot l = record {
  slots : l.tagged.items ≡ l.initial.tagged.items ++ map (tagged_with l.epoch) (take l.slot-index l.slots);
  room : vec_capacity l.tagged ≡ vec_capacity l.initial.tagged;
}
