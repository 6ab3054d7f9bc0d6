use Rattle.std.proofs.Common.{arith}
use Rattle.pebr_core.specs.declared.kinds.ShieldAt.TheVariants as shield
use Rattle.pebr_core.specs.Steps.{validated_shield}
use Rattle.pebr_core.proofs.Marks.{is_mapped}
use Rattle.pebr_core.proofs.seats.validate.Goals as goal

pub returns : goal.returns
returns c =
    is_mapped (validated_shield c.args.seen.now) c.loop-place.shields c.args.shields.now shield.Down shield.Down
    c.loop-place.invariant.0
    (λ k h. c.loop-place.invariant.1 k (omega (arith, c.loop-place.invariant.0)))
