use Rattle.std.proofs.Common.{◌≡◌, ◌+◌, ◌*◌, ◌-◌, ◌≤◌, ◌++◌, length}
use Rattle.std.specs.Vec.{vec_capacity}
use Rattle.capture_maker.specs.Made.{capture_of, packets_from}
use Rattle.capture_maker.proofs.making.capture.Given as goal

-- what is written, and the packets from the next number on, are the whole
abbrev pub invariant-loop-number : goal.invariant-loop-number
invariant-loop-number l =
    (l.bytes.items ++ packets_from l.keys l.draws.state l.number (l.packets - l.number)
    ≡ capture_of l.seed l.packets l.keys)
    × (length l.bytes.items ≡ 24 + 44 * l.number)
    × (24 + 44 * l.packets ≤ vec_capacity l.bytes)
