use Rattle.flow_parts.proofs.Shares.{counts, times}
use Rattle.flow_parts.proofs.laws.sharing_out_counts.Goals as goal

pub returns-clause-counts : goal.returns-clause-counts
returns-clause-counts c = counts

pub returns-clause-times : goal.returns-clause-times
returns-clause-times c = times
