use Rattle.std.proofs.Common.{◌≡◌, replicate}
use Rattle.pebr_core.proofs.row.Grid.with_copies.Given as goal

abbrev pub invariant-loop : goal.invariant-loop
invariant-loop g l = l.rows.items ≡ replicate l.counter (replicate l.width l.value)
