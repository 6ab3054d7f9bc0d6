use Rattle.std.proofs.Common.{◌≡◌, ◌++◌}
use Rattle.pebr_core.specs.State.{seat_at}
use Rattle.pebr_schedule.specs.Printed.{shield_list}
use Rattle.pebr_schedule.proofs.printing.put_shields.Given as goal

-- the shields so far
abbrev pub invariant-loop-place : goal.invariant-loop-place
invariant-loop-place l = l.out.items ≡ l.initial.out.items ++ shield_list l.place (seat_at l.core l.seat)
