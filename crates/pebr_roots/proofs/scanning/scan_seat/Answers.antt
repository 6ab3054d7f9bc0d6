use Rattle.std.proofs.Common.{◌+◌, ◌<◌, ◌∙◌, sym, ap, subst, arith}
use Rattle.pebr_core.specs.declared.kinds.Shape.{Shape}
use Rattle.pebr_core.specs.Steps.{found_under}
use Rattle.pebr_words.specs.Pasts.{History}
use Rattle.pebr_words.specs.Seats.{shape_of, known_of, number_of, past_of, operations_of}
use Rattle.pebr_roots.specs.Orders.{HasScannedOne}
use Rattle.pebr_core.specs.declared.kinds.Step.TheVariants as step
use Rattle.pebr_roots.specs.Collecting.{IsReading}
use Rattle.pebr_roots.proofs.Scans.{reading_more, looked_on, scanned_once}
use Rattle.pebr_roots.proofs.Orders.{below_more, counted_on, counted_more}
use Rattle.pebr_roots.proofs.scanning.scan_seat.Goals as goal

pub loop-place-preserved : goal.loop-place-preserved
loop-place-preserved g c =
    let before = c.loop-place.invariant in
    let shape = shape_of c.args.words.now in
    let cur = c.loop-place.seat in
    let new = c.scan.new.seat in
    let place = c.loop-place.place in
    let still = c.scan.ensures.still in
    let inside : place < shape.shields = subst
    (λ (sh : Shape). place < sh.shields) c.shape-place-end.ensures.shape c.loop-place-test.true in
    let more = c.kept_slots_are_counted.ensures.scan c.args.other place c.scan.result (known_of cur) in
    record {
      low = omega (arith, inside);
      still = (
        still.0,
        still.1 ∙ before.still.1,
        still.2 ∙ before.still.2,
        still.3 ∙ before.still.3,
        still.4
            ∙ before.still.4,
      );
      note = c.scan.ensures.note ∙ before.note;
      known = subst (IsReading c.args.other (place + 1) (known_of c.args.seat.now)) (sym c.scan.ensures.known)
          (reading_more shape c.args.other place c.scan.result (known_of c.args.seat.now)
          (known_of cur) before.still.0.6 c.requires.other inside more before.known);
      past = looked_on (past_of c.args.seat.now) (past_of cur) (past_of new) place 1 before.past
          (scanned_once (number_of cur) c.args.other place (found_under c.scan.result) (known_of cur) (past_of cur)
          (past_of new) c.scan.ensures.step.past);
      operations = below_more (HasScannedOne shape c.args.other) place (operations_of c.args.seat.now)
          (operations_of cur) (operations_of new) before.operations
          (c.scan.ensures.step.made.0, c.scan.ensures.step.made.2);
      counted = counted_on (past_of c.args.seat.now) (past_of cur) (past_of new) (operations_of c.args.seat.now)
          (operations_of cur) (operations_of new) before.counted
          (counted_more (step.Scan (number_of cur) c.args.other place) (found_under c.scan.result) (known_of cur)
          (past_of cur) (past_of new) _ (operations_of cur) (operations_of new) c.scan.ensures.step.past
          c.scan.ensures.step.made.2);
      ejections = ap (λ (p : History). p.ejections) c.scan.ensures.step.past ∙ before.ejections;
    }
