-- The law, as it is proved of the definition.
use Rattle.packet_headers.proofs.Walk.{walks_on}
use Rattle.packet_headers.proofs.extensions.walk_law.Goals as goal

pub returns : goal.returns
returns c = walks_on
