-- An IP packet: what both versions tell of it.
use Rattle.std.specs.Prelude.{ℕ, Bool, List, Result, Ok, Err, nat_lt, if◌then◌else◌, take, drop}
use Rattle.packet_headers.specs.declared.fault.HeaderFault.{HeaderFault}
use Rattle.packet_headers.specs.declared.fault.HeaderFault.TheVariants.{BadHeader}

-- The version of IP, the octets of the whole packet, its addresses, the protocol of its payload, whether it is a
-- fragment other than the first, and the payload as far as it was captured.
pub record IpPart : Type 0 where
  pub version : ℕ
  pub octets : ℕ
  pub source : ℕ
  pub destination : ℕ
  pub protocol : ℕ
  pub later : Bool
  pub payload : List ℕ

-- A packet of at most 16,777,215 octets. Only an offloaded one can be longer.
abbrev pub limited_octets : ℕ → Result ℕ HeaderFault
limited_octets octets = if nat_lt 16777215 octets then Err BadHeader else Ok octets

-- What lies behind the first `header` octets of a packet of `octets` octets, as far as it was captured: up to the
-- packet's end or the captured end, whichever comes first. What is captured behind the packet's end, as padding, is no
-- part of it.
unfoldable pub behind_header : ℕ → ℕ → List ℕ → List ℕ
behind_header header octets rest = drop header (take octets rest)
