use Rattle.std.proofs.Common.{◌≡◌, ◌+◌, ◌++◌, length, vec_len}
use Rattle.std.specs.Prelude.{All, flat_map, IsPermutation}
use Rattle.batch_queue.specs.Passes.{IsPassOf, IsReaders, put_of, took_of, seats_of, others_of}
use Rattle.batch_queue.specs.Uniting.{IsOther}
use Rattle.batch_queue.proofs.queue.BatchQueue.unite_all.Given as goal

abbrev pub invariant-loop-seat : goal.invariant-loop-seat
invariant-loop-seat l = record {
  left : All (IsOther l.self) l.others.items;
  own : IsPassOf l.self l.all;
  reader : IsReaders l.fn.first → IsReaders l.all;
  put : put_of l.all ≡ put_of l.fn.first;
  others : others_of l.all ≡ others_of l.fn.first;
  many : seats_of l.all + length l.others.items ≡ seats_of l.fn.first + length l.fn.others.items;
  took : IsPermutation (took_of l.fn.first ++ flat_map took_of l.fn.others.items)
      (took_of l.all ++ flat_map took_of l.others.items);
}

abbrev pub decreases-loop-seat : goal.decreases-loop-seat
decreases-loop-seat l = vec_len l.others
