use Rattle.pebr_core.proofs.Frames.{leaves_the_rest}
use Rattle.pebr_core.proofs.laws.steps_leave_the_rest.Goals as goal

pub returns : goal.returns
returns c = leaves_the_rest
