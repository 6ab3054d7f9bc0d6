use Rattle.pebr_core.proofs.KeptSlots.{looked_reaches}
use Rattle.pebr_core.proofs.laws.looked_reaches_a_tag.Goals as goal

pub returns : goal.returns
returns c = looked_reaches
