use Rattle.std.proofs.Common.{◌≡◌, ℕ, ◌<◌, true, get_or}
use Rattle.pebr_core.specs.declared.kinds.ShieldAt.TheVariants as shield
use Rattle.pebr_core.specs.State.{is_down}
use Rattle.pebr_core.proofs.seats.SeatData.are_down.Given as goal

-- the shields so far are down
abbrev pub invariant-loop-place : goal.invariant-loop-place
invariant-loop-place l = (k : ℕ) → k < l.place → is_down (get_or l.self.shields k shield.Down) ≡ true
