use Rattle.std.proofs.Common.{sym, arith}
use Rattle.pebr_core.specs.declared.kinds.ShieldAt.TheVariants as shield
use Rattle.pebr_core.specs.State.{is_down}
use Rattle.pebr_core.proofs.Given.{all_pass}
use Rattle.pebr_core.proofs.seats.SeatData.are_down.Goals as goal

pub returns : goal.returns
returns c =
    sym (all_pass is_down c.args.self.now.shields shield.Down
    (λ k lt. c.loop-place.invariant k (omega (arith, c.len-place-end.ensures))))
