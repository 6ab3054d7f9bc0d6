-- Where the power of two is the divisor, its mask gives the remainder.
use Rattle.std.proofs.Common.{arith}
use Rattle.std.proofs.lemmas.Grind.{common_steps}
use Rattle.flow_key.proofs.Masks.{masked}
use Rattle.flow_key.proofs.key.remainder.Goals as goal

pub returns-then-power-sets : goal.returns-then-power-sets
returns-then-power-sets c = masked c.args.number c.args.sets c.min.result (grind (arith, common_steps))
    (grind (arith, common_steps))
