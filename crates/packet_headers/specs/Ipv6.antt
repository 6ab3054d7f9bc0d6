-- The IPv6 header (RFC 8200, section 3).
use Rattle.std.specs.Prelude.{◌+◌, ◌/◌, ◌==◌, ◌&&◌, ℕ, max, List, length, Result, Ok, Err, nat_lt, not, if◌then◌else◌}
use Rattle.packet_headers.specs.declared.fault.HeaderFault.{HeaderFault}
use Rattle.packet_headers.specs.declared.fault.HeaderFault.TheVariants.{Short, BadHeader}
use Rattle.octets.specs.Numbers.{octet_at, number_at}
use Rattle.octets.specs.Outcome.{◌>>=◌}
use Rattle.packet_headers.specs.Packet.{IpPart, limited_octets, behind_header}
use Rattle.packet_headers.specs.Extensions.{upper_part}

-- The packet's length in octets: the header's 40 and the payload length. A payload length of 0 in front of another
-- header than 59, which means no next header, stands in packets whose segmentation was offloaded: there the packet's
-- length is what the frame's original length leaves, and no less than 40.
unfoldable pub packet_length : List ℕ → ℕ → Result ℕ HeaderFault
packet_length rest original =
    let payload = number_at 4 2 rest in
    if (payload == 0) && not (octet_at 6 rest == 59) then limited_octets (max original 40)
    else limited_octets (40 + payload)

-- The length of a packet of version 6 whose header is whole.
unfoldable pub checked_length : List ℕ → ℕ → Result ℕ HeaderFault
checked_length rest original =
    if nat_lt (length rest) 40 then Err Short
    else if not (octet_at 0 rest / 16 == 6) then Err BadHeader
    else packet_length rest original

-- The IPv6 packet at the front of what was captured, where the frame's original length leaves `original` octets for it.
unfoldable pub ipv6_part : List ℕ → ℕ → Result IpPart HeaderFault
ipv6_part rest original = do
  octets ← checked_length rest original
  upper ← upper_part (octet_at 6 rest) (behind_header 40 octets rest)
  Ok (record {
    version = 6;
    octets = octets;
    source = number_at 8 16 rest;
    destination = number_at 24 16 rest;
    protocol = upper.protocol;
    later = upper.later;
    payload = upper.payload;
  })
