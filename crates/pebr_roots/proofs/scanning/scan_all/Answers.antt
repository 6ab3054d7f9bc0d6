use Rattle.std.proofs.Common.{◌*◌, ◌<◌, ◌∙◌, cond, eqb, subst, arith}
use Rattle.pebr_core.specs.declared.kinds.Shape.{Shape}
use Rattle.pebr_words.specs.Seats.{shape_of, known_of, number_of, past_of, operations_of}
use Rattle.pebr_roots.specs.Orders.{ButFor, HasScannedSome}
use Rattle.pebr_roots.specs.Collecting.{HasLooked, IsReading, others_below}
use Rattle.pebr_roots.proofs.Scans.{reading_next, looked_on, others_times}
use Rattle.pebr_roots.proofs.Orders.{below_more, counted_on}
use Rattle.pebr_roots.proofs.scanning.scan_all.Goals as goal

pub loop-other-preserved : goal.loop-other-preserved
loop-other-preserved g c =
    let before = c.loop-other.invariant in
    let shape = shape_of c.args.words.now in
    let first = c.args.seat.now in
    let cur = c.loop-other.seat in
    let new = c.scan_other.new.seat in
    let other = c.loop-other.other in
    let me = number_of first in
    let still = c.scan_other.ensures.still in
    let inside : other < shape.seats = subst
    (λ (sh : Shape). other < sh.seats) c.shape-other-end.ensures.shape c.loop-other-test.true in
    let read = subst (λ n. IsReading other (cond (eqb other n) 0 shape.shields) (known_of cur) (known_of new))
    before.still.1 c.scan_other.ensures.known in
    let times = others_times me other shape.shields in
    let looked = subst (λ n. HasLooked (past_of cur) (past_of new) (cond (eqb other n) 0 shape.shields)) before.still.1
    c.scan_other.ensures.past in
    record {
      low = omega (arith, inside);
      still = (
        still.0,
        still.1 ∙ before.still.1,
        still.2 ∙ before.still.2,
        still.3 ∙ before.still.3,
        still.4
            ∙ before.still.4,
      );
      note = c.scan_other.ensures.note ∙ before.note;
      known = reading_next me other shape.shields (known_of first) (known_of cur) (known_of new) before.known read;
      kept = (let k = read.kept in let b = before.kept in omega (arith, k, b, times));
      past = subst (HasLooked (past_of first) (past_of new)) times
          (looked_on (past_of first) (past_of cur) (past_of new) (others_below me other * shape.shields)
          (cond (eqb other me) 0 shape.shields) before.past looked);
      operations = below_more (ButFor me (λ j. HasScannedSome shape j shape.shields)) other (operations_of first)
          (operations_of cur) (operations_of new) before.operations
          (subst (λ n. ButFor n (λ j. HasScannedSome shape j shape.shields) other (operations_of cur)
          (operations_of new)) before.still.1 c.scan_other.ensures.operations);
      counted = counted_on (past_of first) (past_of cur) (past_of new) (operations_of first) (operations_of cur)
          (operations_of new) before.counted c.scan_other.ensures.counted;
      ejections = c.scan_other.ensures.ejections ∙ before.ejections;
    }
