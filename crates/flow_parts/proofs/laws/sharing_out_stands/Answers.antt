use Rattle.flow_parts.proofs.Shares.{nothing, together, permuted, its_heap}
use Rattle.flow_parts.proofs.laws.sharing_out_stands.Goals as goal

pub returns-clause-nothing : goal.returns-clause-nothing
returns-clause-nothing c = nothing

pub returns-clause-together : goal.returns-clause-together
returns-clause-together c = together

pub returns-clause-permuted : goal.returns-clause-permuted
returns-clause-permuted c = permuted

pub returns-clause-alone : goal.returns-clause-alone
returns-clause-alone c = its_heap
