-- The code's own: what its search for records finds at a place of a file.
use Rattle.std.specs.Prelude.{ℕ, ◌≡◌, ◌+◌, ◌≤◌, true, false, List, length, drop}
use Rattle.octets.specs.declared.endianness.Endianness.{Endianness}
use Rattle.pcap_reader.specs.declared.front.Front.{Front}
use Rattle.pcap_reader.specs.declared.front.Front.TheVariants.{Record, Damage, Rest}
use Rattle.pcap_reader.specs.Records.{claimed_len, begins_with_record, begins_with_damage}

-- a whole record stands there, and ends at `end`
pub record EndsAt (order : Endianness) (bytes : List ℕ) (at end : ℕ) : Type 0 where
  pub is_record : begins_with_record order (drop at bytes) ≡ true
  pub behind : end ≡ at + (16 + claimed_len order (drop at bytes))
  pub within : end ≤ length bytes

-- less than a whole record, and no header that claims too much
pub record IsRest (order : Endianness) (bytes : List ℕ) : Type 0 where
  pub no_record : begins_with_record order bytes ≡ false
  pub no_damage : begins_with_damage order bytes ≡ false

abbrev pub IsFront : Endianness → List ℕ → ℕ → Front → Type 0
IsFront order bytes at (Record end) = EndsAt order bytes at end
IsFront order bytes at Damage = begins_with_damage order (drop at bytes) ≡ true
IsFront order bytes at Rest = IsRest order (drop at bytes)
