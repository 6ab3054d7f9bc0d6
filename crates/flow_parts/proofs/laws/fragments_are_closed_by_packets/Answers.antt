use Rattle.flow_parts.proofs.Own.{closed_by_packets}
use Rattle.flow_parts.proofs.laws.fragments_are_closed_by_packets.Goals as goal

pub returns : goal.returns
returns c = closed_by_packets
