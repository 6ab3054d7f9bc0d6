use Rattle.record_ledger.proofs.Exact.{gathered_is_one, gathered_in_any_order, gathered_by_keys}
use Rattle.record_ledger.proofs.laws.gathered_lists_are_one.Goals as goal

pub returns-clause-one : goal.returns-clause-one
returns-clause-one c = gathered_is_one

pub returns-clause-any_order : goal.returns-clause-any_order
returns-clause-any_order c = gathered_in_any_order

pub returns-clause-by_keys : goal.returns-clause-by_keys
returns-clause-by_keys c = gathered_by_keys
