-- The packet records of a file (draft-ietf-opsawg-pcap, section 5).
use Rattle.std.specs.Prelude.{ℕ, zero, suc, ◌≡◌, ◌+◌, ◌≤◌, ◌&&◌, Bool, false, List, [], ◌∷◌, ◌++◌, length, take, drop}
use Rattle.std.specs.Prelude.{map, nat_le, nat_lt, if◌then◌else◌, Option, Some, None}
use Rattle.std.specs.List.{concat, AllByRecursion}
use Rattle.octets.specs.declared.endianness.Endianness.{Endianness}
use Rattle.octets.specs.Numbers.{ordered_number_at}
use Rattle.pcap_reader.specs.File.{CaptureFile}

-- The most captured bytes that a record may have.
abbrev pub most_captured : ℕ
most_captured = 262144

-- A record's header has 16 bytes: seconds, fraction, captured length and original length, four bytes each.
-- The captured length is what the header claims to stand behind it.
abbrev pub claimed_len : Endianness → List ℕ → ℕ
claimed_len order bytes = ordered_number_at order 8 4 bytes

-- The bytes begin with a record: a whole record header that claims at most 262,144 captured bytes, and as many
-- bytes behind it.
unfoldable pub begins_with_record : Endianness → List ℕ → Bool
begins_with_record order bytes =
    nat_le 16 (length bytes) && (nat_le (claimed_len order bytes) most_captured && nat_le (16 + claimed_len order bytes)
    (length bytes))

-- The bytes begin with a whole record header that claims more than 262,144 captured bytes.
unfoldable pub begins_with_damage : Endianness → List ℕ → Bool
begins_with_damage order bytes = nat_le 16 (length bytes) && nat_lt most_captured (claimed_len order bytes)

-- The records, each as all its bytes, that stand one directly behind the other from place `from` of the bytes on.
unfoldable pub record_parts : Endianness → ℕ → List ℕ → List (List ℕ)
record_parts order from [] = []
record_parts order (suc from) (byte ∷ bytes) = record_parts order from bytes
record_parts order zero (byte ∷ bytes) =
    if begins_with_record order (byte ∷ bytes)
    then take (16 + claimed_len order (byte ∷ bytes)) (byte ∷ bytes) ∷ record_parts order
    (15 + claimed_len order (byte ∷ bytes)) bytes
    else []

-- The records of a file, each as all its bytes.
abbrev pub parts_of : CaptureFile → List (List ℕ)
parts_of file = record_parts file.order file.start file.bytes

-- Where the rest begins: behind all records.
abbrev pub rest_offset : CaptureFile → ℕ
rest_offset file = file.start + length (concat (parts_of file))

-- What is left behind the records.
abbrev pub rest_of : CaptureFile → List ℕ
rest_of file = drop (rest_offset file) file.bytes

-- The number of bytes that are left behind the records.
abbrev pub tail_of : CaptureFile → ℕ
tail_of file = length (rest_of file)

-- The offset of the first record header that claims too much, where there is one.
abbrev pub damage_of : CaptureFile → Option ℕ
damage_of file = if begins_with_damage file.order (rest_of file) then Some (rest_offset file) else None

-- A packet record: when it was captured, its length on the link, and the captured bytes.
pub record PacketRecord : Type 0 where
  pub seconds : ℕ
  pub fraction : ℕ
  pub original : ℕ
  pub captured : List ℕ

-- What the bytes of a record say.
abbrev pub packet_record : Endianness → List ℕ → PacketRecord
packet_record order part = record {
  seconds = ordered_number_at order 0 4 part;
  fraction = ordered_number_at order 4 4 part;
  original = ordered_number_at order 12 4 part;
  captured = drop 16 part;
}

-- The packet records of a file, in file order.
abbrev pub records_of : CaptureFile → List PacketRecord
records_of file = map (packet_record file.order) (parts_of file)

-- Where parts begin that stand one directly behind the other, the first of them at `from`.
abbrev pub offsets_from : ℕ → List (List ℕ) → List ℕ
offsets_from from [] = []
offsets_from from (part ∷ parts) = from ∷ offsets_from (from + length part) parts

-- Where the records of a file begin.
abbrev pub record_offsets : CaptureFile → List ℕ
record_offsets file = offsets_from file.start (parts_of file)

-- ---- the law above these definitions

-- A whole record: 16 bytes, then as many bytes as its captured length says, at most 262,144.
pub record IsRecord (order : Endianness) (part : List ℕ) : Type 0 where
  pub header : 16 ≤ length part
  pub small : claimed_len order part ≤ most_captured
  pub whole : length part ≡ 16 + claimed_len order part

-- The file is what stands before its records, then these records, then this rest, which begins with no record.
pub record IsCutInto (file : CaptureFile) (parts : List (List ℕ)) (rest : List ℕ) : Type 0 where
  pub together : file.bytes ≡ take file.start file.bytes ++ (concat parts ++ rest)
  pub records : AllByRecursion (IsRecord file.order) parts
  pub ended : begins_with_record file.order rest ≡ false

-- The file is cut so, and in no other way.
pub record IsOnlyCut (file : CaptureFile) (parts : List (List ℕ)) (rest : List ℕ) : Type 0 where
  pub cut : IsCutInto file parts rest
  pub only : (others : List (List ℕ)) (left : List ℕ) → IsCutInto file others left → (others ≡ parts) × (left ≡ rest)
