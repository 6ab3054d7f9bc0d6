use Rattle.std.proofs.Common.{arith}
use Rattle.pebr_core.specs.declared.kinds.Retired.TheVariants as retire
use Rattle.pebr_core.specs.Steps.{tag_with}
use Rattle.pebr_core.proofs.Marks.{is_mapped}
use Rattle.pebr_core.proofs.retired.tag_all.Goals as goal

pub returns : goal.returns
returns c =
    is_mapped (tag_with c.args.epoch) c.loop-slot.slots c.args.slots.now retire.No retire.No c.loop-slot.auto.slots
    (λ k h. c.loop-slot.invariant.0 k (omega arith))
