use Rattle.std.specs.Prelude.{vec_capacity}
use Rattle.std.specs.List.{range_with_len}
use Rattle.std.proofs.Common.{◌≡◌, ◌≤◌}
use Rattle.pebr_slots.proofs.fresh.falling_from.Given as goal

abbrev pub invariant-loop-place : goal.invariant-loop-place
invariant-loop-place l = record {
  low : l.place ≤ l.count;
  slots : l.fresh.items ≡ range_with_len l.first l.place;
  room : l.count ≤ vec_capacity l.fresh;
}
