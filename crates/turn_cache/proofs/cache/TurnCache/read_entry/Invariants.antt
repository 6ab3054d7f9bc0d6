use Rattle.std.proofs.Common.{◌≡◌, ◌≤◌, length, take}
use Rattle.cache_face.specs.Keeping.{IsWhole}
use Rattle.turn_cache.specs.Moves.{more_read}
use Rattle.turn_cache.proofs.cache.TurnCache.read_entry.Given as goal

abbrev pub invariant-loop-k : goal.invariant-loop-k
invariant-loop-k l = record {
  low : l.k ≤ 10;
  long : length l.words ≡ 10;
  at : l.seat.table_id ≡ l.fn.seat.table_id;
  me : l.seat.me ≡ (more_read (take l.k l.words) l.fn.seat.me.0, l.fn.seat.me.1);
  whole : l.k ≡ 10 → IsWhole l.words;
}
