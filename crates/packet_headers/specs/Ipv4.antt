-- The IPv4 header (RFC 791, section 3.1).
use Rattle.std.specs.Prelude.{◌*◌, ◌/◌, ◌%◌, ◌==◌, ◌||◌, ℕ, max, List, length, Result, Ok, Err, nat_lt, not}
use Rattle.std.specs.Prelude.{if◌then◌else◌}
use Rattle.packet_headers.specs.declared.fault.HeaderFault.{HeaderFault}
use Rattle.packet_headers.specs.declared.fault.HeaderFault.TheVariants.{Short, BadHeader}
use Rattle.octets.specs.Numbers.{octet_at, number_at}
use Rattle.octets.specs.Outcome.{◌>>=◌}
use Rattle.packet_headers.specs.Packet.{IpPart, limited_octets, behind_header}

-- The version, and the header's length in words of four octets: the upper and the lower four bits of
-- the first octet.
abbrev pub version : List ℕ → ℕ
version rest = octet_at 0 rest / 16

abbrev pub header_words : List ℕ → ℕ
header_words rest = octet_at 0 rest % 16

-- The header's length in octets, its options among them. The least header has 20 octets.
unfoldable pub header_length : List ℕ → Result ℕ HeaderFault
header_length rest =
    if nat_lt (length rest) 20 then Err Short
    else if not (version rest == 4) || nat_lt (header_words rest) 5 then Err BadHeader
    else if nat_lt (length rest) (4 * header_words rest) then Err Short
    else Ok (4 * header_words rest)

-- The packet's length in octets: its total length, which isn't below the header's. A total length of 0 stands in
-- packets whose segmentation was offloaded: there the packet's length is what the frame's original length leaves, and
-- no less than the header's.
unfoldable pub packet_length : List ℕ → ℕ → ℕ → Result ℕ HeaderFault
packet_length rest original header =
    let total = number_at 2 2 rest in
    if total == 0 then limited_octets (max original header)
    else if nat_lt total header then Err BadHeader
    else limited_octets total

-- The fragment offset is the lower 13 bits of octets 6 and 7.
abbrev pub fragment_offset : List ℕ → ℕ
fragment_offset rest = number_at 6 2 rest % 8192

-- The IPv4 packet at the front of what was captured, where the frame's original length leaves `original` octets for it.
unfoldable pub ipv4_part : List ℕ → ℕ → Result IpPart HeaderFault
ipv4_part rest original = do
  header ← header_length rest
  octets ← packet_length rest original header
  Ok (record {
    version = 4;
    octets = octets;
    source = number_at 12 4 rest;
    destination = number_at 16 4 rest;
    protocol = octet_at 9 rest;
    later = nat_lt 0 (fragment_offset rest);
    payload = behind_header header octets rest;
  })
