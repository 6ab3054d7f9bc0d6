use Rattle.std.proofs.Common.{◌≡◌, length, All}
use Rattle.batch_queue.specs.Passes.{IsPassOf, IsReaders, IsFresh, MayPut, WasTold, others_of}
use Rattle.batch_queue.proofs.queue.BatchQueue.deal.Given as goal

abbrev pub invariant-loop-turn : goal.invariant-loop-turn
invariant-loop-turn l = record {
  own : IsPassOf l.self l.reader;
  reader : IsReaders l.reader;
  fresh : IsFresh l.reader;
  may : MayPut l.reader;
  told : ¬ WasTold l.reader;
  others : others_of l.reader ≡ length l.passes.items;
  count : length l.passes.items ≡ l._turn;
  quiet : All (λ p. (¬ WasTold p) × (¬ MayPut p)) l.passes.items;
  each : All (λ p. IsPassOf l.self p × IsFresh p × (¬ IsReaders p) × (others_of p ≡ 0)) l.passes.items;
}
