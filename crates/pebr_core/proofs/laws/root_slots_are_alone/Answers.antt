use Rattle.pebr_core.proofs.ShieldSteps.{root_slot}
use Rattle.pebr_core.proofs.laws.root_slots_are_alone.Goals as goal

pub returns-clause-fresh : goal.returns-clause-fresh
returns-clause-fresh c = λ state root i sound inside. (root_slot state sound root i inside).0

pub returns-clause-retired : goal.returns-clause-retired
returns-clause-retired c = λ state root i sound inside. (root_slot state sound root i inside).1
