-- The laws, as they are proved of the definition.
use Rattle.packet_accept.proofs.Clocks.{clock_together, clock_permuted}
use Rattle.packet_accept.proofs.laws.clock_law.Goals as goal

pub returns-clause-together : goal.returns-clause-together
returns-clause-together c = clock_together

pub returns-clause-permuted : goal.returns-clause-permuted
returns-clause-permuted c = clock_permuted
