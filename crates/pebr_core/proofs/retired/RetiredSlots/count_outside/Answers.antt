use Rattle.std.proofs.Common.{◌∙◌, ◌≤◌, ap, count_by, length, take_all, arith}
use Rattle.pebr_core.specs.Marks.{given_marks}
use Rattle.pebr_core.proofs.Given.{given_length}
use Rattle.pebr_core.proofs.retired.RetiredSlots.count_outside.Goals as goal

pub returns : goal.returns
returns c =
    let marks = given_marks c.args.self.now c.args.kept.now in
    let whole : length marks ≤ c.loop-slot.slot = omega (arith, given_length c.args.self.now c.args.kept.now) in
    c.loop-slot.invariant.1 ∙ ap (count_by (λ mark. mark)) (take_all c.loop-slot.slot marks whole)
