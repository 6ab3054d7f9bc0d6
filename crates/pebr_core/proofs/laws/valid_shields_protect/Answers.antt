use Rattle.pebr_core.proofs.KeptSlots.{protects}
use Rattle.pebr_core.proofs.laws.valid_shields_protect.Goals as goal

pub returns : goal.returns
returns c = λ seat place slot. protects seat.shields place slot
