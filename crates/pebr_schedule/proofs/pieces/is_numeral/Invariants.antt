use Rattle.std.proofs.Common.{◌≡◌, ℕ, ◌<◌, true, get_or}
use Rattle.pebr_schedule.specs.Numbers.{is_digit}
use Rattle.pebr_schedule.proofs.pieces.is_numeral.Given as goal

-- the bytes so far are digits
abbrev pub invariant-loop-byte : goal.invariant-loop-byte
invariant-loop-byte l = (k : ℕ) → k < l.byte-index → is_digit (get_or l.piece k 0) ≡ true
