use Rattle.std.proofs.Common.{◌≡◌, ◌++◌, flat_map}
use Rattle.std.specs.List.{range_with_len}
use Rattle.pebr_schedule.specs.Printed.{seat_line}
use Rattle.pebr_schedule.proofs.printing.put_seats.Given as goal

-- the lines so far
abbrev pub invariant-loop-seat : goal.invariant-loop-seat
invariant-loop-seat l = l.out.items ≡ l.initial.out.items ++ flat_map (seat_line l.core) (range_with_len 0 l.seat)
