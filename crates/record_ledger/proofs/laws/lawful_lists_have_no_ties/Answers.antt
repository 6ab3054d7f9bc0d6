use Rattle.record_ledger.proofs.Gathered.{no_ties}
use Rattle.record_ledger.proofs.laws.lawful_lists_have_no_ties.Goals as goal

pub returns-clause-no_ties : goal.returns-clause-no_ties
returns-clause-no_ties c = no_ties
