use Rattle.meter_workers.proofs.Common.{◌≡◌, ◌+◌, ◌++◌, List, length, vec_len, IsPermutation, Answer, HaveDone}
use Rattle.meter_workers.proofs.Common.{IsShareOf, HaveMetered}
use Rattle.meter_workers.specs.Shares.{StandsEmptied}
use Rattle.meter_workers.proofs.together.unite_shares.Given as goal

abbrev pub invariant-loop-share : goal.invariant-loop-share
invariant-loop-share g l = record {
  many : (g.C.FlowCache.shown l.all.pass).note.seats + length l.emptied.items ≡ length l.fn.shares.items;
  tail : l.all.tail ≡ l.tail;
  metered : (answers : List Answer) → HaveDone (IsShareOf g.C.FlowCache l.cache) answers l.fn.shares.items
      → (rest done : List Answer) × HaveDone (StandsEmptied g.C.FlowCache l.cache) rest l.emptied.items
      × HaveMetered g.C.FlowCache l.cache done l.all × IsPermutation answers (rest ++ done);
}

abbrev pub decreases-loop-share : goal.decreases-loop-share
decreases-loop-share g l = vec_len l.emptied
