-- What was read so far was metered, and the part that was read last comes behind it.
use Rattle.meter_workers.proofs.Common.{◌≡◌, ◌+◌, ◌<◌, ◌^◌, ◌++◌, List, length, IsIndexOf, Answer, answers_from}
use Rattle.meter_workers.proofs.Common.{HasGiven, part_in, base_in, left_in, HaveDone, IsShareOf}
use Rattle.meter_workers.proofs.windows.meter_parts.Given as goal

abbrev pub invariant-loop-shares : goal.invariant-loop-shares
invariant-loop-shares g l = record {
  many : length l.shares.items ≡ length l.fn.shares.items;
  part : IsIndexOf l.index (part_in l.reading);
  few : base_in l.reading + length l.index.offsets < 2 ^ 32;
  read : (answers : List Answer) × (base_in l.reading ≡ length answers)
      × HasGiven (g.S.Source.left l.fn.source) (g.S.Source.left l.source) l.windows.limit l.reading
      (answers ++ answers_from (base_in l.reading) (part_in l.reading))
      × HaveDone (IsShareOf g.C.FlowCache l.cache) answers l.shares.items;
  quiet : g.S.Source.faults l.source ≡ g.S.Source.faults l.fn.source;
}

abbrev pub decreases-loop-shares : goal.decreases-loop-shares
decreases-loop-shares g l = left_in l.reading
