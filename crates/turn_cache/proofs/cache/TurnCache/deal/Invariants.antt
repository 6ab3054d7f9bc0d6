use Rattle.std.proofs.Common.{◌≡◌, ◌≤◌, ◌-◌, length, [], All}
use Rattle.std.specs.List.{range_with_len}
use Rattle.cache_face.specs.Meaning.{IsFresh}
use Rattle.cache_face.specs.Notes.{unused_note}
use Rattle.turn_cache.specs.Hands.{new_hand}
use Rattle.turn_cache.specs.Shown.{shown_of, lost_of, IsOf}
use Rattle.turn_cache.proofs.cache.TurnCache.deal.Given as goal

abbrev pub invariant-loop-number : goal.invariant-loop-number
invariant-loop-number l = record {
  low : l.number ≤ l.self.seats;
  at : l.seat.table_id ≡ l.self.table.shared.table_id;
  me : l.seat.me
      ≡ (new_hand (range_with_len l.number (l.self.seats - l.number)) (unused_note (l.self.seats - l.number)), []);
  many : length l.passes.items ≡ l.number;
  each : All (λ pass. IsOf l.self pass × IsFresh (shown_of pass)) l.passes.items;
  unlost : All (λ pass. lost_of pass ≡ []) l.passes.items;
}
