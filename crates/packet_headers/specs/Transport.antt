-- The transport headers: TCP (RFC 9293, section 3.1) and UDP (RFC 768).
use Rattle.std.specs.Prelude.{◌%◌, ℕ, List, length, Result, Ok, Err, nat_lt, if◌then◌else◌}
use Rattle.packet_headers.specs.declared.fault.HeaderFault.{HeaderFault}
use Rattle.packet_headers.specs.declared.fault.HeaderFault.TheVariants.{Short}
use Rattle.octets.specs.Numbers.{number_at}

-- The ports of both ends, and the control bits of TCP.
pub record TransportPart : Type 0 where
  pub source_port : ℕ
  pub destination_port : ℕ
  pub flags : ℕ

-- The control bits are the lower 12 bits of octets 12 and 13, the reserved ones among them (RFC 7125).
abbrev pub tcp_fields : List ℕ → TransportPart
tcp_fields segment = record {
  source_port = number_at 0 2 segment;
  destination_port = number_at 2 2 segment;
  flags = number_at 12 2 segment % 4096;
}

abbrev pub udp_fields : List ℕ → TransportPart
udp_fields datagram = record {
  source_port = number_at 0 2 datagram;
  destination_port = number_at 2 2 datagram;
  flags = 0;
}

-- TCP's ports and flags are in its first 14 octets, UDP's ports in its first 4.
abbrev pub tcp_part : List ℕ → Result TransportPart HeaderFault
tcp_part segment = if nat_lt (length segment) 14 then Err Short else Ok (tcp_fields segment)

abbrev pub udp_part : List ℕ → Result TransportPart HeaderFault
udp_part datagram = if nat_lt (length datagram) 4 then Err Short else Ok (udp_fields datagram)
