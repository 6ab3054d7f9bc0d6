use Rattle.std.proofs.Common.{◌≡◌, ◌<◌, ◌^◌, take}
use Rattle.pebr_schedule.specs.Numbers.{value_of}
use Rattle.pebr_schedule.proofs.pieces.number.Given as goal

-- what the digits so far stand for
abbrev pub invariant-loop-byte : goal.invariant-loop-byte
invariant-loop-byte l = (l.number < 2 ^ 64) × (l.number ≡ value_of (take l.byte-index l.piece))
