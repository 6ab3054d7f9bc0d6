-- The link part: what stands in front of the IP header of a captured frame.
use Rattle.std.specs.Prelude.{◌≡◌, ◌+◌, ◌/◌, ◌⊎◌, ◌==◌, ◌||◌, ℕ, Bool, List, length, Option, Some, None, Result, Ok}
use Rattle.std.specs.Prelude.{Err, nat_lt, not, if◌then◌else◌}
use Rattle.link_types.specs.declared.link.LinkType.{LinkType}
use Rattle.link_types.specs.declared.link.LinkType.TheVariants.{Ethernet, RawIp, LinuxCooked}
use Rattle.link_types.specs.Links.{link_of}
use Rattle.packet_headers.specs.declared.fault.HeaderFault.{HeaderFault}
use Rattle.packet_headers.specs.declared.fault.HeaderFault.TheVariants.{Short, NotIp}
use Rattle.packet_headers.specs.declared.link.Announced.{Announced}
use Rattle.octets.specs.Numbers.{octet_at, number_at}
use Rattle.octets.specs.Outcome.{◌>>=◌}

-- The versions of IP.
abbrev pub IsIpVersion : ℕ → Type 0
IsIpVersion version = (version ≡ 4) ⊎ (version ≡ 6)

-- The version of IP, and how many octets of the frame stand in front of the IP header.
pub record LinkPart : Type 0 where
  pub version : ℕ
  pub offset : ℕ

-- The types that announce a tag: a customer tag and a service tag (IEEE 802.1Q, 9.5).
abbrev pub is_tag : ℕ → Bool
is_tag kind = (kind == 0x8100) || (kind == 0x88A8)

-- A type and the place in the frame where what it announces begins are an `Announced`. A tag, where there is one, is
-- gone over: behind its type stand two octets of the tag, and then the next type, four octets together (IEEE 802.1Q,
-- 9.3 to 9.6).
unfoldable pub after_tag : List ℕ → Announced → Result Announced HeaderFault
after_tag frame first =
    if not (is_tag first.kind) then Ok first
    else if nat_lt (length frame) (first.place + 4) then Err Short
    else Ok (record { kind = number_at (first.place + 2) 2 frame; place = first.place + 4 })

-- IPv4 and IPv6 are announced by 0x0800 and 0x86DD (RFC 894, RFC 2464); no other type is IP.
unfoldable pub ip_announced : Announced → Result LinkPart HeaderFault
ip_announced last =
    if last.kind == 0x0800 then Ok (record { version = 4; offset = last.place })
    else if last.kind == 0x86DD then Ok (record { version = 6; offset = last.place })
    else Err NotIp

-- A link header that ends with a type: its two octets are the last of the header. At most two tags are
-- gone over.
unfoldable pub typed_part : ℕ → List ℕ → Result LinkPart HeaderFault
typed_part place frame =
    if nat_lt (length frame) (place + 2) then Err Short
    else do
      first ← after_tag frame (record { kind = number_at place 2 frame; place = place + 2 })
      second ← after_tag frame first
      ip_announced second

-- No link header: the upper four bits of the first octet are the version (RFC 791, 3.1; RFC 8200, 3).
unfoldable pub raw_part : List ℕ → Result LinkPart HeaderFault
raw_part captured =
    if nat_lt (length captured) 1 then Err Short
    else if octet_at 0 captured / 16 == 4 then Ok (record { version = 4; offset = 0 })
    else if octet_at 0 captured / 16 == 6 then Ok (record { version = 6; offset = 0 })
    else Err NotIp

-- The link part of what was captured, by its link type. The header of Ethernet has 14 octets, that of
-- Linux cooked version 1 has 16.
abbrev pub part_of_link : LinkType → List ℕ → Result LinkPart HeaderFault
part_of_link Ethernet captured = typed_part 12 captured
part_of_link RawIp captured = raw_part captured
part_of_link LinuxCooked captured = typed_part 14 captured

-- The same by the number of a link type. Behind a link of another type no IP packet is known.
abbrev pub part_of_number : Option LinkType → List ℕ → Result LinkPart HeaderFault
part_of_number (Some link) captured = part_of_link link captured
part_of_number None captured = Err NotIp

abbrev pub link_part : ℕ → List ℕ → Result LinkPart HeaderFault
link_part number captured = part_of_number (link_of number) captured
