-- Numbers in octets. Places count octets from 0.
use Rattle.std.specs.Prelude.{◌<◌, ℕ, List, drop, slice_index}
use Rattle.byteorder.specs.Endian.{big_number, little_number, big_bytes, little_bytes}
use Rattle.octets.specs.declared.endianness.Endianness.{Endianness}
use Rattle.octets.specs.declared.endianness.Endianness.TheVariants.{Little, Big}

-- The octet at a place; 0 at a place behind the last octet.
abbrev pub octet_at : ℕ → List ℕ → ℕ
octet_at place octets = slice_index octets place

-- The number in the `size` octets from a place on, in network order: the most significant octet first
-- (RFC 791, appendix B).
unfoldable pub number_at : ℕ → ℕ → List ℕ → ℕ
number_at place size octets = big_number size (drop place octets)

-- The number in the first `size` octets, in this order of octets.
unfoldable pub number : Endianness → ℕ → List ℕ → ℕ
number Little size octets = little_number size octets
number Big size octets = big_number size octets

-- The number in the `size` octets from a place on, in this order of octets.
abbrev pub ordered_number_at : Endianness → ℕ → ℕ → List ℕ → ℕ
ordered_number_at order place size octets = number order size (drop place octets)

-- The `size` octets of a number, in network order.
abbrev pub octets_of : ℕ → ℕ → List ℕ
octets_of size value = big_bytes size value

-- The `size` octets of a number, in this order of octets.
unfoldable pub ordered_octets : Endianness → ℕ → ℕ → List ℕ
ordered_octets Little size value = little_bytes size value
ordered_octets Big size value = big_bytes size value

-- Each number in the list is that of an octet: it is below 256.
abbrev pub AreOctets : List ℕ → Type 0
AreOctets octets = (place : ℕ) → octet_at place octets < 256
