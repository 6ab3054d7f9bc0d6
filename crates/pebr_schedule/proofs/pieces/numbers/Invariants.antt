use Rattle.std.proofs.Common.{◌≡◌, option_copied}
use Rattle.pebr_schedule.specs.Numbers.{numbers_of}
use Rattle.pebr_schedule.specs.Rest.{pieces_after}
use Rattle.pebr_schedule.proofs.Cuts.{joined, left}
use Rattle.pebr_schedule.proofs.pieces.numbers.Given as goal

-- the numbers so far and those of what is left are all
abbrev pub invariant-loop-rest : goal.invariant-loop-rest
invariant-loop-rest l = joined l.numbers.items (numbers_of (pieces_after 32 (option_copied l.rest)))
    ≡ numbers_of (pieces_after 32 (option_copied l.text))

abbrev pub decreases-loop-rest : goal.decreases-loop-rest
decreases-loop-rest l = left (option_copied l.rest)
