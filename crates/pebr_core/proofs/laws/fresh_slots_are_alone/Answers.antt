use Rattle.pebr_core.proofs.KeptSlots.{fresh_alone}
use Rattle.pebr_core.proofs.laws.fresh_slots_are_alone.Goals as goal

pub returns : goal.returns
returns c = fresh_alone
