use Rattle.std.proofs.Common.{◌≡◌, ℕ, ◌<◌, false, get_or}
use Rattle.pebr_core.specs.declared.kinds.ShieldAt.TheVariants as shield
use Rattle.pebr_core.specs.State.{is_valid_on}
use Rattle.pebr_core.proofs.seats.SeatData.is_shielded.Given as goal

-- none of the shields so far is valid on the slot
abbrev pub invariant-loop-place : goal.invariant-loop-place
invariant-loop-place l = (k : ℕ) → k < l.place → is_valid_on l.slot (get_or l.self.shields k shield.Down) ≡ false
