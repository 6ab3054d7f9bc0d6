use Rattle.std.proofs.Common.{◌≡◌, ◌≤◌}
use Rattle.pebr_words.specs.Seats.{IsStill, shape_of, known_of, note_of, past_of, operations_of}
use Rattle.pebr_roots.specs.Orders.{HasScannedSome}
use Rattle.pebr_roots.specs.Collecting.{HasLooked, IsCounted, IsReading}
use Rattle.pebr_roots.proofs.scanning.scan_seat.Given as goal

abbrev pub invariant-loop-place : goal.invariant-loop-place
invariant-loop-place g l = record {
  low : l.place ≤ (shape_of l.words).shields;
  still : IsStill l.words l.initial.seat l.seat;
  note : note_of g.P.RootProtocol.first l.seat ≡ note_of g.P.RootProtocol.first l.initial.seat;
  known : IsReading l.other l.place (known_of l.initial.seat) (known_of l.seat);
  past : HasLooked (past_of l.initial.seat) (past_of l.seat) l.place;
  operations : HasScannedSome (shape_of l.words) l.other l.place (operations_of l.initial.seat) (operations_of l.seat);
  counted : IsCounted (past_of l.initial.seat) (past_of l.seat) (operations_of l.initial.seat) (operations_of l.seat);
  ejections : (past_of l.seat).ejections ≡ (past_of l.initial.seat).ejections;
}
