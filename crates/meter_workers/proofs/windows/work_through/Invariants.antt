use Rattle.meter_workers.proofs.Common.{◌≡◌, ◌+◌, length, size_of, drawn_of, answers_by, pieces_of, HasMetered}
use Rattle.meter_workers.proofs.Common.{IsBehind}
use Rattle.std.proofs.Common.{◌-◌}
use Rattle.work_pieces.specs.Passes.{IsPassOf, seats_of}
use Rattle.meter_workers.proofs.windows.work_through.Given as goal

abbrev pub invariant-loop-draw : goal.invariant-loop-draw
invariant-loop-draw g l = record {
  draws : IsPassOf l.pieces l.draw;
  seat : seats_of l.draw ≡ 1;
  share : HasMetered g.C.FlowCache l.cache (pieces_of (size_of l.pieces) (answers_by l.part) (drawn_of l.draw))
      l.initial.share l.share;
  behind : IsBehind (size_of l.pieces) l.initial.share.tally.captured (drawn_of l.draw) l.share.tally.captured;
}

abbrev pub decreases-loop-draw : goal.decreases-loop-draw
decreases-loop-draw g l =
    l.initial.share.tally.captured + length l.part.index.now.offsets - l.share.tally.captured
