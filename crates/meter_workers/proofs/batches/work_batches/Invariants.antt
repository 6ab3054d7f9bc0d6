use Rattle.meter_workers.proofs.Common.{List, [], IsPassOf, IsMore, took_of, Batch, HasMetered, answers_in, IsReadyFor}
use Rattle.meter_workers.proofs.batches.work_batches.Given as goal

abbrev pub invariant-loop : goal.invariant-loop
invariant-loop g l = record {
  of : IsPassOf l.shared.queue l.seat;
  ready : IsReadyFor (took_of l.seat) l.share.tally.captured;
  did : (more : List Batch) × IsMore [] more l.initial.seat l.seat
      × HasMetered g.C.FlowCache l.cache (answers_in more) l.initial.share l.share;
}
