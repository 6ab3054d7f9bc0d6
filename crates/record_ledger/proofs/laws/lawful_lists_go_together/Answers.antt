use Rattle.record_ledger.proofs.Gathered.{by_own_clock, lawful_together}
use Rattle.record_ledger.proofs.laws.lawful_lists_go_together.Goals as goal

pub returns-clause-own_clock : goal.returns-clause-own_clock
returns-clause-own_clock c = by_own_clock

pub returns-clause-together : goal.returns-clause-together
returns-clause-together c = lawful_together
