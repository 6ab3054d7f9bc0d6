use Rattle.std.proofs.Common.{◌≡◌, replicate}
use Rattle.pebr_core.proofs.row.Row.with_copies.Given as goal

abbrev pub invariant-loop : goal.invariant-loop
invariant-loop g l = l.entries.items ≡ replicate l.counter l.value
