use Rattle.std.proofs.Common.{◌≡◌, ◌+◌, ◌≤◌, length}
use Rattle.pebr_schedule.specs.Numbers.{pieces_of}
use Rattle.pebr_schedule.specs.Grammar.{steps_of}
use Rattle.pebr_schedule.proofs.Lines.{behind}
use Rattle.pebr_schedule.proofs.reading.read_steps.Given as goal

-- the steps so far and those of what is left are all; each line took at least one byte, its line feed
abbrev pub invariant-loop-after : goal.invariant-loop-after
invariant-loop-after l =
    (behind l.steps.items (steps_of l.number (pieces_of 10 l.rest)) ≡ steps_of 2 (pieces_of 10 l.text))
    × (l.number + length l.rest ≤ 2 + length l.text)

abbrev pub decreases-loop-after : goal.decreases-loop-after
decreases-loop-after l = length l.rest
