use Rattle.std.proofs.Common.{◌≡◌, ◌∙◌, false, sym, length, arith}
use Rattle.std.proofs.lemmas.List.{ext_get_or}
use Rattle.pebr_core.specs.Steps.{union_of}
use Rattle.pebr_core.specs.Marks.{given_marks}
use Rattle.pebr_core.proofs.Marks.{has-union_of, length-union_of}
use Rattle.pebr_core.proofs.Given.{given_length}
use Rattle.pebr_core.proofs.retired.RetiredSlots.add_outside.Goals as goal

pub returns : goal.returns
returns c =
    let old = c.args.marks.now in
    let marks = given_marks c.args.self.now c.args.kept.now in
    let same : length old ≡ length marks = c.requires ∙ sym (given_length c.args.self.now c.args.kept.now) in
    ext_get_or false c.loop-slot.marks (union_of old marks) (c.loop-slot.invariant.0
    ∙ sym (length-union_of old marks same))
    (λ k lt. c.loop-slot.invariant.1 k (omega (arith, c.loop-slot.invariant.0, c.requires))
    ∙ sym (has-union_of old marks k))
