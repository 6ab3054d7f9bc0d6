-- The values of fragments.
use Rattle.std.specs.Prelude.{◌≡◌, ℕ, ◌+◌, List, [], ◌∷◌, ◌++◌, min, max, bit_or}
use Rattle.flow_key.specs.Key.{words_of}
use Rattle.packet_accept.specs.declared.packet.Packet.{Packet}
use Rattle.flow_parts.specs.declared.fragment.Fragment.{Fragment}

-- The ten words of a fragment: the five of its key, then packets, octets, first, last and flags.
abbrev pub part_words : Fragment → List ℕ
part_words f = words_of f.key ++ f.packets ∷ f.octets ∷ f.first ∷ f.last ∷ f.flags ∷ []

-- The fragment is that of one packet.
pub record IsAlone (packet : Packet) (fragment : Fragment) : Type 0 where
  pub key : fragment.key ≡ packet.key
  pub packets : fragment.packets ≡ 1
  pub octets : fragment.octets ≡ packet.octets
  pub first : fragment.first ≡ packet.time
  pub last : fragment.last ≡ packet.time
  pub flags : fragment.flags ≡ packet.flags

-- The new fragment is the old one with the packet taken in.
pub record IsAbsorbed (old : Fragment) (packet : Packet) (new : Fragment) : Type 0 where
  pub key : new.key ≡ old.key
  pub packets : new.packets ≡ old.packets + 1
  pub octets : new.octets ≡ old.octets + packet.octets
  pub first : new.first ≡ min old.first packet.time
  pub last : new.last ≡ max old.last packet.time
  pub flags : new.flags ≡ bit_or old.flags packet.flags

-- The whole is two fragments as one.
pub record IsJoined (one other whole : Fragment) : Type 0 where
  pub key : whole.key ≡ one.key
  pub packets : whole.packets ≡ one.packets + other.packets
  pub octets : whole.octets ≡ one.octets + other.octets
  pub first : whole.first ≡ min one.first other.first
  pub last : whole.last ≡ max one.last other.last
  pub flags : whole.flags ≡ bit_or one.flags other.flags
