use Rattle.meter_workers.proofs.Common.{◌≡◌, ◌++◌, length, open_in, put_by}
use Rattle.meter_workers.proofs.share.empty_front.Given as goal

abbrev pub invariant-loop-out : goal.invariant-loop-out
invariant-loop-out g l = record {
  own : g.C.FlowCache.is_of l.cache l.pass;
  single : (g.C.FlowCache.shown l.pass).note.seats ≡ 1;
  taken : (g.C.FlowCache.shown l.pass).note.taken ++ open_in l.front
      ≡ put_by (g.C.FlowCache.shown l.initial.pass) l.fn.front;
  handed : l.initial.parts ≡ (g.C.FlowCache.shown l.initial.pass).note.handed
      → l.parts ≡ (g.C.FlowCache.shown l.pass).note.handed;
}

abbrev pub decreases-loop-out : goal.decreases-loop-out
decreases-loop-out g l = length (open_in l.front)
