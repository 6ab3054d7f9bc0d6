-- What was read before the part that was read last was metered.
use Rattle.meter_workers.proofs.Common.{◌≡◌, length, left_in}
use Rattle.meter_workers.specs.Ahead.{IsUnderWay}
use Rattle.meter_workers.proofs.ahead.meter_parts_ahead.Given as goal

abbrev pub invariant-loop-source : goal.invariant-loop-source
invariant-loop-source g l = record {
  many : length l.standing.shares.items ≡ length l.fn.shares.items;
  way : IsUnderWay g.C.FlowCache l.cache (g.S.Source.left l.fn.source) (g.S.Source.left l.source) l.windows.limit
      l.windows.size l.standing;
  quiet : g.S.Source.faults l.source ≡ g.S.Source.faults l.fn.source;
}

abbrev pub decreases-loop-source : goal.decreases-loop-source
decreases-loop-source g l = left_in l.standing.reading
