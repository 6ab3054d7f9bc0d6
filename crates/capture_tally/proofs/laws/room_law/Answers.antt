use Rattle.capture_tally.proofs.Counting.{has-room}
use Rattle.capture_tally.proofs.laws.room_law.Goals as goal

pub returns : goal.returns
returns c = has-room
