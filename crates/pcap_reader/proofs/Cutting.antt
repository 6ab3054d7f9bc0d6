-- The file is cut into its header, its records and the rest, in one way only.
use Rattle.std.proofs.Common.{◌≡◌, ℕ, zero, suc, ◌+◌, ◌*◌, ◌≤◌, true, false, List, [], ◌∷◌, ◌++◌, length, take, drop}
use Rattle.std.proofs.Common.{refl, sym, ap, ◌∙◌, append_assoc, arith, inl, inr}
use Rattle.std.specs.List.{concat, AllByRecursion}
use Rattle.std.proofs.Math.Seq.{take-add}
use Rattle.std.proofs.lemmas.List.{take-append-drop, length-append, length-take, length-drop, take_at, drop_at}
use Rattle.std.proofs.lemmas.Bool.{cases_Bool}
use Rattle.std.proofs.lemmas.Bool.Decides.{nat_tests}
use Rattle.octets.specs.declared.endianness.Endianness.{Endianness}
use Rattle.pcap_reader.specs.File.{CaptureFile}
use Rattle.pcap_reader.specs.Records.{claimed_len, most_captured, begins_with_record, record_parts, parts_of, rest_of}
use Rattle.pcap_reader.specs.Records.{IsRecord, IsCutInto, IsOnlyCut}
use Rattle.pcap_reader.specs.Front.{EndsAt}
use Rattle.octets.proofs.Reading.{number-drop-append}
use Rattle.pcap_reader.proofs.Parts.{record_parts-record, record_parts-rest}

-- what the bytes of a record hold
record Holds (order : Endianness) (bytes : List ℕ) : Type 0 where
  pub header : 16 ≤ length bytes
  pub small : claimed_len order bytes ≤ most_captured
  pub enough : 16 + claimed_len order bytes ≤ length bytes

Holds-from_test : (order : Endianness) (bytes : List ℕ) → begins_with_record order bytes ≡ true → Holds order bytes
unfolding begins_with_record
Holds-from_test order bytes h = record {
  header = grind (arith, nat_tests);
  small = grind (arith, nat_tests);
  enough =
      grind (arith, nat_tests);
}

test-from_Holds : (order : Endianness) (bytes : List ℕ) → Holds order bytes → begins_with_record order bytes ≡ true
unfolding begins_with_record
test-from_Holds order bytes h = let a = h.header in let b = h.small in let c = h.enough in grind (arith, nat_tests)

-- a record with something behind it claims what it claims alone
pub claimed_len-append : (order : Endianness) (part more : List ℕ) → 16 ≤ length part
    → claimed_len order (part ++ more) ≡ claimed_len order part
claimed_len-append order part more h = number-drop-append order 4 8 part more (omega arith)

-- the front of some bytes is a whole record
IsRecord-take : (order : Endianness) (bytes : List ℕ) → Holds order bytes
    → IsRecord order (take (16 + claimed_len order bytes) bytes)
IsRecord-take order bytes h =
    let n = claimed_len order bytes in
    let part = take (16 + n) bytes in
    let len : length part ≡ 16 + n = omega (arith, h.enough, length-take (16 + n) bytes) in
    let same : n ≡ claimed_len order part = ap (claimed_len order) (sym (take-append-drop (16 + n) bytes))
    ∙ claimed_len-append order part (drop (16 + n) bytes) (omega arith) in
    record { header = omega arith; small = omega (arith, same, h.small); whole = omega (arith, len, same) }

record CutFrom (order : Endianness) (bytes : List ℕ) (at : ℕ) : Type 0 where
  pub together : bytes ≡ take at bytes ++
      (concat (record_parts order at bytes) ++ drop (at + length (concat (record_parts order at bytes))) bytes)
  pub records : AllByRecursion (IsRecord order) (record_parts order at bytes)
  pub ended : begins_with_record order (drop (at + length (concat (record_parts order at bytes))) bytes) ≡ false

CutFrom-rest : (order : Endianness) (bytes : List ℕ) (at : ℕ) → begins_with_record order (drop at bytes) ≡ false
    → CutFrom order bytes at
CutFrom-rest order bytes at h =
    let none = record_parts-rest order bytes at h in
    let here : at + length (concat (record_parts order at bytes)) ≡ at =
    omega (arith, ap (λ (parts : List (List ℕ)). length (concat parts)) none) in
    record {
      together = rw (here, none) (sym (take-append-drop at bytes));
      records = rw none tt;
      ended = rw here h;
    }

CutFrom-record : (order : Endianness) (bytes : List ℕ) (at end : ℕ) → EndsAt order bytes at end
    → CutFrom order bytes end → CutFrom order bytes at
CutFrom-record order bytes at end h later =
    let n = claimed_len order (drop at bytes) in
    let part = take (16 + n) (drop at bytes) in
    let others = record_parts order end bytes in
    let split = record_parts-record order bytes at end h in
    let len : length part ≡ 16 + n = omega
    (arith, h.behind, h.within, length-take (16 + n) (drop at bytes), length-drop at bytes) in
    let behind : at + length (concat (record_parts order at bytes)) ≡ end + length (concat others) =
    omega (
      arith,
      len,
      h.behind,
      ap (λ (parts : List (List ℕ)). length (concat parts)) split,
      length-append part (concat others),
    ) in
    let left = drop (end + length (concat others)) bytes in
    let front : take end bytes ≡ take at bytes ++ part = ap (λ (k : ℕ). take k bytes) h.behind
    ∙ take-add at (16 + n) bytes in
    let regrouped : take end bytes ++ (concat others ++ left) ≡ take at bytes ++ ((part ++ concat others) ++ left) =
    ap (λ (f : List ℕ). f ++ (concat others ++ left)) front ∙ append_assoc (take at bytes) part (concat others ++ left)
    ∙ ap (λ (r : List ℕ). take at bytes ++ r) (sym (append_assoc part (concat others) left)) in
    record {
      together = rw (behind, split) (later.together ∙ regrouped);
      records = rw split (
        IsRecord-take order (drop at bytes) (Holds-from_test order (drop at bytes) h.is_record),
        later.records,
      );
      ended = rw behind later.ended;
    }

-- where the test says that a record stands, it ends within the bytes
pub ends_at : (order : Endianness) (bytes : List ℕ) (at : ℕ) → at ≤ length bytes
    → begins_with_record order (drop at bytes) ≡ true
    → EndsAt order bytes at (at + (16 + claimed_len order (drop at bytes)))
ends_at order bytes at within h =
    record {
      is_record = h;
      behind = refl;
      within =
          omega (arith, length-drop at bytes, (Holds-from_test order (drop at bytes) h).enough);
    }

cut_from : (fuel : ℕ) (order : Endianness) (bytes : List ℕ) (at : ℕ) → at ≤ length bytes → length bytes ≤ at + fuel
    → CutFrom order bytes at
cut_from zero order bytes at within all =
    elim (cases_Bool (begins_with_record order (drop at bytes))) [
      | inl h ↦ let e = ends_at order bytes at within h in absurd (omega (arith, e.within, e.behind))
      | inr h ↦ CutFrom-rest order bytes at h
    ]
cut_from (suc fuel) order bytes at within all =
    elim (cases_Bool (begins_with_record order (drop at bytes))) [
      | inl h ↦
          let e = ends_at order bytes at within h in
          let end = at + (16 + claimed_len order (drop at bytes)) in
          CutFrom-record order bytes at end e (cut_from fuel order bytes end e.within (omega arith))
      | inr h ↦ CutFrom-rest order bytes at h
    ]

-- the definitions cut the file
pub file_is_cut : (file : CaptureFile) → file.start ≤ length file.bytes → IsCutInto file (parts_of file) (rest_of file)
file_is_cut file h =
    let cut = cut_from (length file.bytes) file.order file.bytes file.start h (omega arith) in
    record { together = cut.together; records = cut.records; ended = cut.ended }

-- records behind some front, and a rest that begins with no record, are those from the front's end on
parts_are : (order : Endianness) (parts : List (List ℕ)) (front rest bytes : List ℕ) (at : ℕ) → length front ≡ at
    → bytes ≡ front ++ (concat parts ++ rest)
    → AllByRecursion (IsRecord order) parts → begins_with_record order rest ≡ false
    → parts ≡ record_parts order at bytes
parts_are order [] front rest bytes at len together records ended =
    let left : drop at bytes ≡ rest = ap (drop at) together ∙ drop_at front rest at len in
    sym (record_parts-rest order bytes at (rw left ended))
parts_are order (part ∷ parts) front rest bytes at len together records ended =
    let more = concat parts ++ rest in
    let regrouped : bytes ≡ front ++ (part ++ more) = together
    ∙ ap (λ (r : List ℕ). front ++ r) (append_assoc part (concat parts) rest) in
    let left : drop at bytes ≡ part ++ more = ap (drop at) regrouped ∙ drop_at front (part ++ more) at len in
    let first = records.0 in
    let claim : claimed_len order (drop at bytes) ≡ claimed_len order part = ap (claimed_len order) left
    ∙ claimed_len-append order part more first.header in
    let end = at + length part in
    let all : length bytes ≡ at + (length part + length more) = ap length regrouped ∙ length-append front (part ++ more)
    ∙ omega (arith, len, length-append part more) in
    let holds : Holds order (drop at bytes) = record {
      header = omega (arith, first.header, all, length-drop at bytes);
      small = omega (arith, claim, first.small);
      enough = omega (arith, claim, first.whole, all, length-drop at bytes);
    } in
    let ends : EndsAt order bytes at end = record {
      is_record = test-from_Holds order (drop at bytes) holds;
      behind = omega (arith, claim, first.whole);
      within = omega arith;
    } in
    let split = record_parts-record order bytes at end ends in
    let front_is : take (16 + claimed_len order (drop at bytes)) (drop at bytes) ≡ part =
    ap (take (16 + claimed_len order (drop at bytes))) left
    ∙ take_at part more (16 + claimed_len order (drop at bytes)) (omega (arith, claim, first.whole)) in
    let later : parts ≡ record_parts order end bytes =
    parts_are order parts (front ++ part) rest bytes end (omega (arith, len, length-append front part)) (regrouped
    ∙ sym (append_assoc front part more)) records.1 ended in
    ap (λ (ps : List (List ℕ)). part ∷ ps) later ∙ ap (λ (p : List ℕ). p ∷ record_parts order end bytes) (sym front_is)
    ∙ sym split

one_cut : (file : CaptureFile) (parts : List (List ℕ)) (rest : List ℕ) → file.start ≤ length file.bytes
    → IsCutInto file parts rest → (parts ≡ parts_of file) × (rest ≡ rest_of file)
one_cut file parts rest h cut =
    let front = take file.start file.bytes in
    let len : length front ≡ file.start = omega (arith, length-take file.start file.bytes) in
    let same = parts_are file.order parts front rest file.bytes file.start len cut.together cut.records cut.ended in
    let left : rest ≡ drop (file.start + length (concat parts)) file.bytes =
    sym (ap (drop (file.start + length (concat parts))) (cut.together ∙ sym (append_assoc front (concat parts) rest))
    ∙ drop_at (front ++ concat parts) rest (file.start + length (concat parts))
    (omega (arith, len, length-append front (concat parts)))) in
    (same, left ∙ ap (λ (ps : List (List ℕ)). drop (file.start + length (concat ps)) file.bytes) same)

-- there is one way to cut a file
pub file_is_cut_once : (file : CaptureFile) → file.start ≤ length file.bytes
    → IsOnlyCut file (parts_of file) (rest_of file)
file_is_cut_once file h = record { cut = file_is_cut file h; only = λ parts rest. one_cut file parts rest h }

-- each record has 16 bytes and more
long_parts : (order : Endianness) (parts : List (List ℕ)) → AllByRecursion (IsRecord order) parts
    → 16 * length parts ≤ length (concat parts)
long_parts order [] records = omega arith
long_parts order (part ∷ parts) records =
    omega (arith, records.0.header, long_parts order parts records.1, length-append part (concat parts))

-- so a file has no more records than it has room for
pub few_parts : (file : CaptureFile) → file.start ≤ length file.bytes
    → file.start + 16 * length (parts_of file) + length (rest_of file) ≤ length file.bytes
few_parts file h =
    let cut = file_is_cut file h in
    let all : length file.bytes ≡ length (take file.start file.bytes) +
    (length (concat (parts_of file)) + length (rest_of file)) =
    ap length cut.together ∙ length-append (take file.start file.bytes) (concat (parts_of file) ++ rest_of file)
    ∙ ap (λ (k : ℕ). length (take file.start file.bytes) + k) (length-append (concat (parts_of file)) (rest_of file)) in
    omega (arith, all, length-take file.start file.bytes, long_parts file.order (parts_of file) cut.records)
