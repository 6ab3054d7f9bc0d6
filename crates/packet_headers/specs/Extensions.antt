-- The extension headers of IPv6 (RFC 8200, section 4; the authentication header: RFC 4302, section 2).
use Rattle.std.specs.Prelude.{◌≡◌, ◌+◌, ◌*◌, ◌/◌, ◌==◌, ◌&&◌, ◌||◌, ℕ, zero, suc, Bool, true, false, List, length, drop}
use Rattle.std.specs.Prelude.{Result, Ok, Err, nat_lt, nat_le, not, if◌then◌else◌}
use Rattle.packet_headers.specs.declared.fault.HeaderFault.{HeaderFault}
use Rattle.packet_headers.specs.declared.fault.HeaderFault.TheVariants.{Short}
use Rattle.octets.specs.Numbers.{octet_at, number_at}

-- What lies behind the extension headers: its protocol, whether it is a fragment other than the first, and
-- the octets up to the packet's end.
pub record Upper : Type 0 where
  pub protocol : ℕ
  pub later : Bool
  pub payload : List ℕ

-- The numbers of the headers that are gone over: hop-by-hop options, routing, fragment, authentication
-- and destination options.
abbrev pub is_extension : ℕ → Bool
is_extension next = (next == 0) || (next == 43) || (next == 44) || (next == 51) || (next == 60)

-- The length of such a header in octets: a fragment header has 8, an authentication header counts words of 4 octets
-- without the first two, and any other counts words of 8 octets without the first.
abbrev pub extension_length : ℕ → List ℕ → ℕ
extension_length next headers =
    if next == 44 then 8
    else if next == 51 then 4 * (octet_at 1 headers + 2)
    else 8 * (octet_at 1 headers + 1)

-- The first two octets and the whole header are there.
abbrev pub is_whole : ℕ → List ℕ → Bool
is_whole next headers = nat_le 2 (length headers) && nat_le (extension_length next headers) (length headers)

-- A fragment header whose offset, the upper 13 bits of octets 2 and 3, isn't 0.
abbrev pub is_later_fragment : ℕ → List ℕ → Bool
is_later_fragment next headers = (next == 44) && nat_lt 0 (number_at 2 2 headers / 8)

-- One step: `next` names no extension header, or it names a later fragment's, or `walk` goes on behind it. The first
-- octet of a header names the next one. Behind a later fragment's header there is no other header, whatever it names:
-- what it names is the protocol of the whole packet's payload.
abbrev pub over_one : (ℕ → List ℕ → Result Upper HeaderFault) → ℕ → List ℕ → Result Upper HeaderFault
over_one walk next headers =
    if not (is_extension next) then Ok (record { protocol = next; later = false; payload = headers })
    else if not (is_whole next headers) then Err Short
    else if is_later_fragment next headers then Ok
    (record { protocol = octet_at 0 headers; later = true; payload = drop 8 headers })
    else walk (octet_at 0 headers) (drop (extension_length next headers) headers)

-- At most so many extension headers. (The bound lets the recursion end. It is never met, as the law `WalksOn` below
-- says.)
unfoldable pub over_at_most : ℕ → ℕ → List ℕ → Result Upper HeaderFault
over_at_most zero = λ next headers. Err Short
over_at_most (suc more) = over_one (over_at_most more)

-- All the extension headers, from the one that `next` names to the packet's end. Each has at least 8
-- octets, so there are never more of them than octets.
unfoldable pub upper_part : ℕ → List ℕ → Result Upper HeaderFault
upper_part next headers = over_at_most (suc (length headers)) next headers

-- The law: the bound plays no part. The walk goes over one header, and then over what is left.
abbrev pub WalksOn : ℕ → List ℕ → Type 0
WalksOn next headers = upper_part next headers ≡ over_one upper_part next headers
