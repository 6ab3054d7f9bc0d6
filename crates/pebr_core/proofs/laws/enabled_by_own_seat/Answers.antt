use Rattle.pebr_core.proofs.Frames.{enabled_same}
use Rattle.pebr_core.proofs.laws.enabled_by_own_seat.Goals as goal

pub returns : goal.returns
returns c = enabled_same
