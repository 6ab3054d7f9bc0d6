use Rattle.std.proofs.Common.{◌≡◌, ◌≤◌, set, get_or}
use Rattle.turn_cache.specs.Hands.{writing}
use Rattle.turn_cache.specs.Moves.{at_turn}
use Rattle.turn_cache.proofs.Writing.{mixed}
use Rattle.turn_cache.proofs.cache.TurnCache.write_rest.Given as goal

abbrev pub invariant-loop-k : goal.invariant-loop-k
invariant-loop-k l = record {
  low : l.k ≤ 10;
  at : l.seat.table_id ≡ l.fn.seat.table_id;
  me : l.seat.me
      ≡ (
        at_turn (writing l.set l.place l.new (mixed l.k l.new (set l.old 5 (get_or l.new 5 0)))) l.fn.seat.me.0,
        l.fn.seat.me.1,
      );
}
