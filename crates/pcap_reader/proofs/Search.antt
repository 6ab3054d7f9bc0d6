-- What the search for records has found when it stands at a place.
use Rattle.std.proofs.Common.{◌≡◌, ℕ, suc, ◌+◌, ◌*◌, ◌-◌, ◌≤◌, true, false, List, [], ◌∷◌, ◌++◌, length, take, drop}
use Rattle.std.proofs.Common.{Some, None, refl, sym, ap, ◌∙◌, append_assoc, arith}
use Rattle.std.specs.List.{concat}
use Rattle.std.proofs.lemmas.List.{length-append, length-take, length-drop, length-map, append-nil}
use Rattle.std.proofs.lemmas.Bool.Decides.{nat_tests}
use Rattle.octets.specs.declared.endianness.Endianness.{Endianness}
use Rattle.pcap_reader.specs.File.{CaptureFile}
use Rattle.pcap_reader.specs.Records.{claimed_len, begins_with_record, begins_with_damage, record_parts, parts_of}
use Rattle.pcap_reader.specs.Records.{damage_of, packet_record, offsets_from}
use Rattle.pcap_reader.specs.Index.{Offsets, IsIndexOf}
use Rattle.pcap_reader.specs.Front.{EndsAt, IsRest}
use Rattle.pcap_reader.proofs.Cutting.{few_parts}
use Rattle.pcap_reader.proofs.Parts.{record_parts-record, record_parts-rest}

-- the offsets found, with those from this place on, are all, and the rest begins behind the records from here on
pub record Found (order : Endianness) (start : ℕ) (bytes offsets : List ℕ) (at : ℕ) : Type 0 where
  pub all : offsets ++ offsets_from at (record_parts order at bytes)
      ≡ offsets_from start (record_parts order start bytes)
  pub rest : at + length (concat (record_parts order at bytes))
      ≡ start + length (concat (record_parts order start bytes))
  pub within : at ≤ length bytes

pub Found-start : (order : Endianness) (start : ℕ) (bytes : List ℕ) → start ≤ length bytes
    → Found order start bytes [] start
Found-start order start bytes h = record { all = refl; rest = refl; within = h }

pub Found-record : (order : Endianness) (start : ℕ) (bytes offsets : List ℕ) (at end : ℕ) → EndsAt order bytes at end
    → Found order start bytes offsets at → Found order start bytes (offsets ++ at ∷ []) end
Found-record order start bytes offsets at end h found =
    let part = take (16 + claimed_len order (drop at bytes)) (drop at bytes) in
    let split = record_parts-record order bytes at end h in
    let len : at + length part ≡ end = omega (
      arith,
      h.behind,
      h.within,
      length-take (16 + claimed_len order (drop at bytes)) (drop at bytes),
      length-drop at bytes,
    ) in
    let first : offsets_from at (record_parts order at bytes) ≡ at ∷ offsets_from end (record_parts order end bytes) =
    ap (offsets_from at) split ∙ ap (λ (k : ℕ). at ∷ offsets_from k (record_parts order end bytes)) len in
    let lengths : length (concat (record_parts order at bytes)) ≡ length part + length
    (concat (record_parts order end bytes)) = ap (λ (parts : List (List ℕ)). length (concat parts)) split
    ∙ length-append part (concat (record_parts order end bytes)) in
    record {
      all = append_assoc offsets (at ∷ []) (offsets_from end (record_parts order end bytes))
          ∙ ap (λ (more : List ℕ). offsets ++ more) (sym first) ∙ found.all;
      rest = omega (arith, found.rest, lengths, len);
      within = h.within;
    }

length-offsets_from : (from : ℕ) (parts : List (List ℕ)) → length (offsets_from from parts) ≡ length parts
length-offsets_from from [] = refl
length-offsets_from from (part ∷ parts) = ap suc (length-offsets_from (from + length part) parts)

-- at a place where no record stands the offsets are all, and the rest begins here
pub Found-ended : (order : Endianness) (start : ℕ) (bytes offsets : List ℕ) (at : ℕ)
    → begins_with_record order (drop at bytes) ≡ false → Found order start bytes offsets at
    → (offsets ≡ offsets_from start (record_parts order start bytes))
    × (start + length (concat (record_parts order start bytes)) ≡ at)
Found-ended order start bytes offsets at h found =
    let none = record_parts-rest order bytes at h in
    let all : offsets ++ offsets_from at (record_parts order at bytes) ≡ offsets =
    ap (λ (parts : List (List ℕ)). offsets ++ offsets_from at parts) none ∙ append-nil offsets in
    let nothing : length (concat (record_parts order at bytes)) ≡ 0 =
    ap (λ (parts : List (List ℕ)). length (concat parts)) none in
    (sym all ∙ found.all, omega (arith, found.rest, nothing))

-- at the rest the index is whole
pub Found-index : (file : CaptureFile) (index : Offsets) (at : ℕ)
    → begins_with_record file.order (drop at file.bytes) ≡ false
    → Found file.order file.start file.bytes index.offsets at
    → index.tail ≡ length file.bytes - at → IsIndexOf index file
Found-index file index at h found tail =
    let ended = Found-ended file.order file.start file.bytes index.offsets at h found in
    record {
      offsets = ended.0;
      tail = tail ∙ sym (length-drop at file.bytes) ∙ ap (λ (k : ℕ). length (drop k file.bytes)) (sym ended.1);
      count = ap length ended.0 ∙ length-offsets_from file.start (parts_of file)
          ∙ sym (length-map (parts_of file) (packet_record file.order));
    }

-- at the rest there is no damage
pub Found-sound : (file : CaptureFile) (offsets : List ℕ) (at : ℕ) → IsRest file.order (drop at file.bytes)
    → Found file.order file.start file.bytes offsets at → damage_of file ≡ None
Found-sound file offsets at h found =
    let ended = Found-ended file.order file.start file.bytes offsets at h.no_record found in
    rw (ended.1, h.no_damage) refl

pub damage-no_record : (order : Endianness) (bytes : List ℕ) → begins_with_damage order bytes ≡ true
    → begins_with_record order bytes ≡ false
unfolding begins_with_damage begins_with_record
damage-no_record order bytes h = grind (arith, nat_tests)

-- where a claim of too much stands, there is the damage
pub Found-damage : (file : CaptureFile) (offsets : List ℕ) (at : ℕ)
    → begins_with_damage file.order (drop at file.bytes) ≡ true → Found file.order file.start file.bytes offsets at
    → damage_of file ≡ Some at
Found-damage file offsets at h found =
    let none : begins_with_record file.order (drop at file.bytes) ≡ false =
    damage-no_record file.order (drop at file.bytes) h in
    let ended = Found-ended file.order file.start file.bytes offsets at none found in
    rw (ended.1, h) refl

-- an index has no more records than the file has room for
pub few_records : (file : CaptureFile) (index : Offsets) → file.start ≤ length file.bytes → IsIndexOf index file
    → file.start + 16 * length index.offsets + index.tail ≤ length file.bytes
few_records file index h is =
    let count = is.count ∙ length-map (parts_of file) (packet_record file.order) in
    omega (arith, count, is.tail, few_parts file h)
