use Rattle.std.proofs.Common.{◌≡◌}
use Rattle.work_pieces.specs.Passes.{IsPassOf, seats_of}
use Rattle.trial_layers.proofs.tests.pieces.draws.Given as goal

abbrev pub invariant-loop-number : goal.invariant-loop-number
invariant-loop-number l = record { own : IsPassOf l.pieces l.pass; one : seats_of l.pass ≡ 1 }
