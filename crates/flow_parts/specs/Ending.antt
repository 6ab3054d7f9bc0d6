-- Packets that end their flow, and fragments that are closed.
use Rattle.std.specs.Prelude.{IsTrue}
use Rattle.packet_accept.specs.Ending.{is_tcp_end, ends_flow}
use Rattle.packet_accept.specs.declared.packet.Packet.{Packet}
use Rattle.flow_parts.specs.declared.fragment.Fragment.{Fragment}

-- The packet ends its flow.
abbrev pub Ends : Packet → Type 0
Ends packet = IsTrue (ends_flow packet)

-- The fragment is closed: its protocol and its flags are those of a packet that ends its flow. Its flags are the union
-- of its packets' flags, so one of these packets ends the flow.
abbrev pub IsClosed : Fragment → Type 0
IsClosed fragment = IsTrue (is_tcp_end fragment.key.protocol fragment.flags)
