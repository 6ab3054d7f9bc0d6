use Rattle.std.proofs.Common.{◌≡◌, ◌+◌, ◌-◌, ◌≤◌, [], length, All, false}
use Rattle.work_pieces.specs.Passes.{IsPassOf}
use Rattle.work_pieces.specs.Dealing.{hand}
use Rattle.work_pieces.proofs.pieces.Pieces.deal.Given as goal

abbrev pub invariant-loop-i : goal.invariant-loop-i
invariant-loop-i l = record {
  own : l.seat.table_id ≡ l.self.table.shared.table_id;
  me : l.seat.me ≡ (hand l.seats l.self.pieces (l.seats + 1 - l._i) 0 [], []);
  key : l.seats ≡ l.self.table.shared.key.all;
  many : length l.passes.items + 1 ≡ l._i;
  low : 1 ≤ l._i;
  high : l._i ≤ l.seats;
  each : All (λ d. IsPassOf l.self d × (d.done ≡ false) × (d.seat.me.0 ≡ hand l.seats l.self.pieces 1 0 []))
      l.passes.items;
}
