use Rattle.flow_parts.proofs.Reaching.{reaches_onward, reaches_permuted, reaches_together, reaches_joined}
use Rattle.flow_parts.proofs.laws.reaching_goes_on.Goals as goal

pub returns-clause-onward : goal.returns-clause-onward
returns-clause-onward c = reaches_onward

pub returns-clause-permuted : goal.returns-clause-permuted
returns-clause-permuted c = reaches_permuted

pub returns-clause-together : goal.returns-clause-together
returns-clause-together c = reaches_together

pub returns-clause-joined : goal.returns-clause-joined
returns-clause-joined c = reaches_joined
