use Rattle.std.proofs.Common.{sym, arith}
use Rattle.pebr_core.specs.declared.kinds.ShieldAt.TheVariants as shield
use Rattle.pebr_core.specs.State.{is_valid_on}
use Rattle.pebr_core.proofs.Given.{any_none}
use Rattle.pebr_core.proofs.seats.SeatData.is_shielded.Goals as goal

pub returns : goal.returns
returns c =
    sym (any_none (is_valid_on c.args.slot) c.args.self.now.shields shield.Down
    (λ k lt. c.loop-place.invariant k (omega (arith, c.len-place-end.ensures))))
