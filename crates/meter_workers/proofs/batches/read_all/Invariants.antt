-- The records of the parts so far were handed on, and the part that was read last comes next.
use Rattle.meter_workers.proofs.Common.{◌≡◌, ◌<◌, ◌+◌, ◌^◌, ◌++◌, List, length, IsIndexOf, Answer, answers_from}
use Rattle.meter_workers.proofs.Common.{HasGiven, part_in, base_in, left_in, HasHandedOn}
use Rattle.capture_input.specs.Giving.{size_in}
use Rattle.meter_workers.specs.Batched.{IsAtQueue}
use Rattle.meter_workers.proofs.batches.read_all.Given as goal

abbrev pub invariant-loop-read : goal.invariant-loop-read
invariant-loop-read g l = record {
  part : IsIndexOf l.index (part_in l.reading);
  few : base_in l.reading + length l.index.offsets < 2 ^ 32;
  size : size_in l.reading ≡ l.shared.size;
  at : IsAtQueue l.shared.queue l.reader;
  quiet : g.S.Source.faults l.source ≡ g.S.Source.faults l.fn.source;
  done : (done : List Answer) × (base_in l.reading ≡ length done)
      × HasGiven (g.S.Source.left l.fn.source) (g.S.Source.left l.source) l.limit l.reading
      (done ++ answers_from (base_in l.reading) (part_in l.reading))
      × HasHandedOn g.C.FlowCache l.cache l.shared.queue l.shared.workers done l.reader;
}

abbrev pub decreases-loop-read : goal.decreases-loop-read
decreases-loop-read g l = left_in l.reading
