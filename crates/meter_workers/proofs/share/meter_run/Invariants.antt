use Rattle.meter_workers.proofs.Common.{◌≡◌, ◌≤◌, ◌+◌, slice_range, answers_by, HasMetered}
use Rattle.meter_workers.proofs.share.meter_run.Given as goal

abbrev pub invariant-loop-n : goal.invariant-loop-n
invariant-loop-n g l = record {
  share : HasMetered g.C.FlowCache l.cache (slice_range (answers_by l.part) l.from l.n) l.initial.share l.share;
  captured : l.share.tally.captured + l.from ≡ l.initial.share.tally.captured + l.n;
  low : l.from ≤ l.n;
}
