use Rattle.std.proofs.Common.{refl}
use Rattle.pebr_core.specs.State.{slot_count}
use Rattle.pebr_core.proofs.KeptSlots.{count_none, scan_keeps, give_leaves, give_gives, give_freshens}
use Rattle.pebr_core.proofs.laws.kept_slots_are_counted.Goals as goal

pub returns-clause-note : goal.returns-clause-note
returns-clause-note c = λ shape epoch seat. count_none (slot_count shape)

pub returns-clause-pass : goal.returns-clause-pass
returns-clause-pass c = λ other seat. refl

pub returns-clause-scan : goal.returns-clause-scan
returns-clause-scan c = scan_keeps

pub returns-clause-empty : goal.returns-clause-empty
returns-clause-empty c = λ other place seat. refl

pub returns-clause-left : goal.returns-clause-left
returns-clause-left c = give_leaves

pub returns-clause-given : goal.returns-clause-given
returns-clause-given c = give_gives

pub returns-clause-fresh : goal.returns-clause-fresh
returns-clause-fresh c = give_freshens
