use Rattle.std.proofs.Common.{◌≡◌, ◌++◌}
use Rattle.pebr_core.specs.State.{seat_at}
use Rattle.pebr_schedule.specs.Printed.{retired_list}
use Rattle.pebr_schedule.proofs.printing.put_retired_list.Given as goal

-- the slots so far
abbrev pub invariant-loop-slot : goal.invariant-loop-slot
invariant-loop-slot l = l.out.items ≡ l.initial.out.items ++ retired_list l.slot (seat_at l.core l.seat)
