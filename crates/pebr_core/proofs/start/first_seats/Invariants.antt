use Rattle.std.proofs.Common.{◌≡◌, map, All}
use Rattle.std.specs.List.{range_with_len}
use Rattle.pebr_core.specs.State.{first_seat}
use Rattle.pebr_core.specs.Shown.{shown_seat, HasRoom}
use Rattle.pebr_core.proofs.start.first_seats.Given as goal

-- the seats so far
abbrev pub invariant-loop-seat : goal.invariant-loop-seat
invariant-loop-seat l = (map shown_seat l.seats.items ≡ map (first_seat l.shape) (range_with_len 0 l.seat))
    × All (HasRoom l.shape) l.seats.items
