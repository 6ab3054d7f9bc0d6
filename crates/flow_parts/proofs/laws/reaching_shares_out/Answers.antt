use Rattle.flow_parts.proofs.Reaching.{stands_reached, reaches_counts, reaches_none}
use Rattle.flow_parts.proofs.laws.reaching_shares_out.Goals as goal

pub returns-clause-shared : goal.returns-clause-shared
returns-clause-shared c = stands_reached

pub returns-clause-counts : goal.returns-clause-counts
returns-clause-counts c = reaches_counts

pub returns-clause-none : goal.returns-clause-none
returns-clause-none c = reaches_none
