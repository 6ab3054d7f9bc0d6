use Rattle.pebr_core.proofs.StartState.{start_sound}
use Rattle.pebr_core.proofs.laws.start_is_sound.Goals as goal

pub returns : goal.returns
returns c = start_sound
