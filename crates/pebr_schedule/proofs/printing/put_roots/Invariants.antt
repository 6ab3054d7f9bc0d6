use Rattle.std.proofs.Common.{◌≡◌, ◌++◌, flat_map}
use Rattle.std.specs.List.{range_with_len}
use Rattle.pebr_schedule.specs.Printed.{root_line}
use Rattle.pebr_schedule.proofs.printing.put_roots.Given as goal

-- the lines so far
abbrev pub invariant-loop-root : goal.invariant-loop-root
invariant-loop-root l = l.out.items ≡ l.initial.out.items ++ flat_map (root_line l.core) (range_with_len 0 l.root)
