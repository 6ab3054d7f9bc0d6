-- The greatest of those that were seen and those that are left is the greatest of all.
use Rattle.std.proofs.Common.{◌≡◌, max, drop}
use Rattle.pair_program.specs.Pairing.{greatest_last}
use Rattle.pair_program.proofs.stream.greatest_last.Given as goal

abbrev pub invariant-loop-flow : goal.invariant-loop-flow
invariant-loop-flow l = max l.greatest (greatest_last (drop l.flow-index l.flows)) ≡ greatest_last l.flows
