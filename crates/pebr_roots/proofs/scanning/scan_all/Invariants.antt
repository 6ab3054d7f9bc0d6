use Rattle.std.proofs.Common.{◌≡◌, ◌≤◌, ◌+◌, ◌*◌}
use Rattle.pebr_core.specs.Frames.{kept_count}
use Rattle.pebr_words.specs.Seats.{IsStill, shape_of, known_of, number_of, note_of, past_of, operations_of}
use Rattle.pebr_roots.specs.Orders.{AreScannedBelow}
use Rattle.pebr_roots.specs.Collecting.{HasLooked, IsCounted, AreReading, others_below}
use Rattle.pebr_roots.proofs.scanning.scan_all.Given as goal

abbrev pub invariant-loop-other : goal.invariant-loop-other
invariant-loop-other g l = record {
  low : l.other ≤ (shape_of l.words).seats;
  still : IsStill l.words l.initial.seat l.seat;
  note : note_of g.P.RootProtocol.first l.seat ≡ note_of g.P.RootProtocol.first l.initial.seat;
  known : AreReading (number_of l.initial.seat) l.other (shape_of l.words).shields (known_of l.initial.seat)
      (known_of l.seat);
  kept : kept_count (known_of l.seat) ≤ kept_count (known_of l.initial.seat)
      + others_below (number_of l.initial.seat) l.other * (shape_of l.words).shields;
  past : HasLooked (past_of l.initial.seat) (past_of l.seat)
      (others_below (number_of l.initial.seat) l.other * (shape_of l.words).shields);
  operations : AreScannedBelow (shape_of l.words) (number_of l.initial.seat) l.other (operations_of l.initial.seat)
      (operations_of l.seat);
  counted : IsCounted (past_of l.initial.seat) (past_of l.seat) (operations_of l.initial.seat) (operations_of l.seat);
  ejections : (past_of l.seat).ejections ≡ (past_of l.initial.seat).ejections;
}
