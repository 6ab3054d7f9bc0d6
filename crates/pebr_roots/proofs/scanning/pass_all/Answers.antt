use Rattle.std.proofs.Common.{◌*◌, ◌<◌, ◌≡◌, true, ◌∙◌, cond, eqb, subst, arith}
use Rattle.pebr_core.specs.declared.kinds.Shape.{Shape}
use Rattle.pebr_words.specs.Seats.{shape_of, known_of, number_of, past_of, operations_of}
use Rattle.pebr_roots.specs.Collecting.{HasLooked, IsPassing, others_below}
use Rattle.pebr_roots.specs.Orders.{ButFor, HasPassed}
use Rattle.pebr_roots.proofs.Scans.{passed_more, looked_on, others_more}
use Rattle.pebr_roots.proofs.Orders.{below_more, but_as, passed_same, counted_on}
use Rattle.pebr_roots.proofs.scanning.pass_all.Goals as goal

pub loop-other-preserved : goal.loop-other-preserved
loop-other-preserved g c =
    let before = c.loop-other.invariant in
    let shape = shape_of c.args.words.now in
    let first = c.args.seat.now in
    let cur = c.loop-other.seat in
    let new = c.pass.new.seat in
    let other = c.loop-other.other in
    let me = number_of first in
    let still = c.pass.ensures.still in
    let on : c.pass.result ≡ true = c.if-not-pass.false in
    let inside : other < shape.seats = subst
    (λ (sh : Shape). other < sh.seats) c.shape-other-end.ensures.shape c.loop-other-test.true in
    let known = subst (λ n. IsPassing n other true (known_of cur) (known_of new)) before.still.1
    (subst (λ b. IsPassing (number_of cur) other b (known_of cur) (known_of new)) on c.pass.ensures.known) in
    let looked = subst (λ n. HasLooked (past_of cur) (past_of new) (cond (eqb other n) 0 2)) before.still.1
    c.pass.ensures.past in
    let made = subst
    (λ n. ButFor n (λ j. HasPassed shape (known_of cur) c.args.force j true) other (operations_of cur)
    (operations_of new)) before.still.1
    (subst (λ b. ButFor (number_of cur) (λ j. HasPassed shape (known_of cur) c.args.force j b) other
    (operations_of cur) (operations_of new)) on c.pass.ensures.operations) in
    record {
      low = omega (arith, inside);
      still = (
        still.0,
        still.1 ∙ before.still.1,
        still.2 ∙ before.still.2,
        still.3 ∙ before.still.3,
        still.4
            ∙ before.still.4,
      );
      note = c.pass.ensures.note ∙ before.note;
      known = passed_more me other (known_of first) (known_of cur) (known_of new) before.known known;
      past = subst (HasLooked (past_of first) (past_of new)) (others_more me other)
          (looked_on (past_of first) (past_of cur) (past_of new) (2 * others_below me other) (cond (eqb other me) 0 2)
          before.past looked);
      operations = below_more (ButFor me (λ j. HasPassed shape (known_of first) c.args.force j true)) other
          (operations_of first) (operations_of cur) (operations_of new) before.operations
          (but_as me other (λ j. HasPassed shape (known_of cur) c.args.force j true)
          (λ j. HasPassed shape (known_of first) c.args.force j true) (operations_of cur) (operations_of new)
          (passed_same shape (known_of first) (known_of cur) c.args.force other true (operations_of cur)
          (operations_of new) before.known.scan) made);
      counted = counted_on (past_of first) (past_of cur) (past_of new) (operations_of first) (operations_of cur)
          (operations_of new) before.counted c.pass.ensures.counted;
      mild = λ m. c.pass.ensures.mild m ∙ before.mild m;
    }
