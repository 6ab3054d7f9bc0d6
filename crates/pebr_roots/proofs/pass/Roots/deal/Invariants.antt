use Rattle.std.proofs.Common.{◌≡◌, ◌+◌, ◌-◌, ◌<◌, ℕ, length, get_or}
use Rattle.pebr_words.specs.Seats.{IsOpenedSeat}
use Rattle.pebr_roots.specs.Passes.{shape_at, IsOpenedPass}
use Rattle.pebr_roots.proofs.pass.Roots.deal.Given as goal

abbrev pub invariant-loop-turn : goal.invariant-loop-turn
invariant-loop-turn g l = record {
  count : length l.seats.items + length l.passes.items ≡ (shape_at l.self).seats;
  turns : length l.passes.items ≡ l._turn;
  ahead : (i : ℕ) (d : _) → i < length l.seats.items
      → IsOpenedSeat l.self.words g.P.RootProtocol.first i (get_or l.seats.items i d);
  done : (k : ℕ) (d : _) → k < length l.passes.items
      → IsOpenedPass l.self g.P.RootProtocol.first ((shape_at l.self).seats - 1 - k) (get_or l.passes.items k d);
}
