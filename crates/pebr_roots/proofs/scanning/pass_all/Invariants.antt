use Rattle.std.proofs.Common.{◌≡◌, ◌≤◌, ◌*◌, false}
use Rattle.pebr_words.specs.Seats.{IsStill, shape_of, known_of, number_of, note_of, past_of, operations_of}
use Rattle.pebr_roots.specs.Orders.{ArePassedBelow}
use Rattle.pebr_roots.specs.Collecting.{HasLooked, IsCounted, others_below}
use Rattle.pebr_roots.proofs.Scans.{ArePassed}
use Rattle.pebr_roots.proofs.scanning.pass_all.Given as goal

abbrev pub invariant-loop-other : goal.invariant-loop-other
invariant-loop-other g l = record {
  low : l.other ≤ (shape_of l.words).seats;
  still : IsStill l.words l.initial.seat l.seat;
  note : note_of g.P.RootProtocol.first l.seat ≡ note_of g.P.RootProtocol.first l.initial.seat;
  known : ArePassed (number_of l.initial.seat) l.other (known_of l.initial.seat) (known_of l.seat);
  past : HasLooked (past_of l.initial.seat) (past_of l.seat) (2 * others_below (number_of l.initial.seat) l.other);
  operations : ArePassedBelow (shape_of l.words) (known_of l.initial.seat) l.force (number_of l.initial.seat) l.other
      (operations_of l.initial.seat) (operations_of l.seat);
  counted : IsCounted (past_of l.initial.seat) (past_of l.seat) (operations_of l.initial.seat) (operations_of l.seat);
  mild : l.force ≡ false → (past_of l.seat).ejections ≡ (past_of l.initial.seat).ejections;
}
