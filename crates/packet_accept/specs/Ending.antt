-- The end of a flow that a packet shows.
use Rattle.std.specs.Prelude.{◌==◌, ◌&&◌, ◌||◌, ℕ, Bool, bit_and, not}
use Rattle.packet_accept.specs.declared.packet.Packet.{Packet}

-- TCP (protocol 6) with the control bit FIN, 0x001, or RST, 0x004: its sender ends or resets the connection
-- (RFC 9293, section 3.1).
abbrev pub is_tcp_end : ℕ → ℕ → Bool
is_tcp_end protocol flags = (protocol == 6) && (not (bit_and flags 0x001 == 0) || not (bit_and flags 0x004 == 0))

-- The packet ends its flow.
abbrev pub ends_flow : Packet → Bool
ends_flow packet = is_tcp_end packet.key.protocol packet.flags
