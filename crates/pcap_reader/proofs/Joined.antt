-- The records of bytes with more behind them.
use Rattle.std.proofs.Common.{◌≡◌, ℕ, ◌+◌, ◌≤◌, ◌<◌, true, false, List, [], ◌∷◌, ◌++◌, length, take, drop, Some, None}
use Rattle.std.proofs.Common.{refl, sym, ap, ◌∙◌, append_assoc, arith, inl, inr}
use Rattle.std.specs.Prelude.{map}
use Rattle.std.specs.List.{concat, AllByRecursion}
use Rattle.std.proofs.lemmas.List.{take-append-le, length-append, length-drop, length-take, length-map, map-append}
use Rattle.std.proofs.lemmas.List.Folds.{concat-append}
use Rattle.std.proofs.lemmas.Bool.{cases_Bool, cases_lt}
use Rattle.std.proofs.lemmas.Bool.Decides.{nat_tests}
use Rattle.octets.specs.declared.endianness.Endianness.{Endianness}
use Rattle.pcap_reader.specs.File.{CaptureFile}
use Rattle.pcap_reader.specs.Records.{claimed_len, most_captured, begins_with_record, begins_with_damage, parts_of}
use Rattle.pcap_reader.specs.Records.{rest_of, rest_offset, tail_of, damage_of, packet_record, IsRecord, IsCutInto}
use Rattle.pcap_reader.specs.Parts.{grown_file, part_with, GoesOn, BeginsWithMore}
use Rattle.pcap_reader.proofs.Cutting.{file_is_cut, file_is_cut_once, claimed_len-append, ends_at}
use Rattle.pcap_reader.proofs.Parts.{record_parts-record, record_parts-rest}
use Rattle.pcap_reader.proofs.Search.{damage-no_record}

all-append : {X : Type 0} (P : X → Type 0) (xs ys : List X) → AllByRecursion P xs → AllByRecursion P ys
    → AllByRecursion P (xs ++ ys)
all-append P [] ys h k = k
all-append P (x ∷ xs) ys h k = (h.0, all-append P xs ys h.1 k)

-- the part that more bytes make of the rest
abbrev pub next_part : CaptureFile → List ℕ → CaptureFile
next_part file more = part_with file (rest_of file ++ more)

-- the file with more bytes is cut into its records, then those of the next part, and that part's rest
cut-grown_file : (file : CaptureFile) (more : List ℕ) → file.start ≤ length file.bytes
    → IsCutInto (grown_file file more) (parts_of file ++ parts_of (next_part file more)) (rest_of (next_part file more))
cut-grown_file file more h =
    let part = next_part file more in
    let one = file_is_cut file h in
    let two = file_is_cut part (omega arith) in
    let a = concat (parts_of file) in
    let b = concat (parts_of part) in
    let front = take file.start file.bytes in
    let together : file.bytes ++ more ≡ front ++ (concat (parts_of file ++ parts_of part) ++ rest_of part) =
    ap (λ (l : List ℕ). l ++ more) one.together
    ∙ append_assoc front (a ++ rest_of file) more
    ∙ ap (λ (l : List ℕ). front ++ l) (append_assoc a (rest_of file) more
    ∙ ap (λ (l : List ℕ). a ++ l) two.together
    ∙ sym (append_assoc a b (rest_of part))
    ∙ ap (λ (l : List ℕ). l ++ rest_of part) (sym (concat-append (parts_of file) (parts_of part)))) in
    record {
      together = together ∙ ap (λ (l : List ℕ). l ++ (concat (parts_of file ++ parts_of part) ++ rest_of part))
          (sym (take-append-le file.start file.bytes more h));
      records = all-append (IsRecord file.order) (parts_of file) (parts_of part) one.records two.records;
      ended = two.ended;
    }

pub record Grows (file : CaptureFile) (more : List ℕ) : Type 0 where
  pub parts : parts_of file ++ parts_of (next_part file more) ≡ parts_of (grown_file file more)
  pub rest : rest_of (next_part file more) ≡ rest_of (grown_file file more)
  pub offset : rest_offset (grown_file file more) ≡ rest_offset file + rest_offset (next_part file more)

pub grows : (file : CaptureFile) (more : List ℕ) → file.start ≤ length file.bytes → Grows file more
grows file more h =
    let part = next_part file more in
    let long : file.start ≤ length (file.bytes ++ more) = omega (arith, h, length-append file.bytes more) in
    let same = (file_is_cut_once (grown_file file more) long).only (parts_of file ++ parts_of part) (rest_of part)
    (cut-grown_file file more h) in
    let lengths : length (concat (parts_of (grown_file file more)))
    ≡ length (concat (parts_of file)) + length (concat (parts_of part)) =
    ap (λ (ps : List (List ℕ)). length (concat ps)) (sym same.0)
    ∙ ap length (concat-append (parts_of file) (parts_of part))
    ∙ length-append (concat (parts_of file)) (concat (parts_of part)) in
    record { parts = same.0; rest = same.1; offset = omega (arith, lengths) }

pub goes_on : (file : CaptureFile) (more : List ℕ) → file.start ≤ length file.bytes → GoesOn file more
goes_on file more h =
    let part = next_part file more in
    let g = grows file more h in
    record {
      records = ap (map (packet_record file.order)) (sym g.parts)
          ∙ map-append (packet_record file.order) (parts_of file) (parts_of part);
      rest = sym g.rest;
      damage = elim (cases_Bool (begins_with_damage file.order (rest_of part))) [
        | inl d ↦ rw (← g.rest, g.offset, d) refl
        | inr d ↦ rw (← g.rest, d) refl
      ];
    }

-- a claim of too much stays one
damage-append : (order : Endianness) (bytes more : List ℕ) → begins_with_damage order bytes ≡ true
    → begins_with_damage order (bytes ++ more) ≡ true
unfolding begins_with_damage
damage-append order bytes more h =
    let long : 16 ≤ length bytes = grind (arith, nat_tests) in
    let much : most_captured < claimed_len order bytes = grind (arith, nat_tests) in
    let same = claimed_len-append order bytes more long in
    let all = length-append bytes more in
    grind (arith, nat_tests)

-- where there is damage
damage-there : (file : CaptureFile) (at : ℕ) → damage_of file ≡ Some at
    → (begins_with_damage file.order (rest_of file) ≡ true) × (rest_offset file ≡ at)
damage-there file at h =
    elim (cases_Bool (begins_with_damage file.order (rest_of file))) [
      | inl d ↦ (d, (let e : Some (rest_offset file) ≡ Some at = rw d at h in cc))
      | inr d ↦ absurd (let e : None ≡ Some at = rw d at h in cc)
    ]

pub damage_stays : (file : CaptureFile) (more : List ℕ) (at : ℕ) → file.start ≤ length file.bytes
    → damage_of file ≡ Some at
    → damage_of (grown_file file more) ≡ Some at
damage_stays file more at h damaged =
    let there = damage-there file at damaged in
    let part = next_part file more in
    let d : begins_with_damage file.order (rest_of file ++ more) ≡ true =
    damage-append file.order (rest_of file) more there.0 in
    let none : parts_of part ≡ [] = record_parts-rest file.order (rest_of file ++ more) 0
    (damage-no_record file.order (rest_of file ++ more) d) in
    let g = grows file more h in
    let nothing : length (concat (parts_of part)) ≡ 0 = ap (λ (ps : List (List ℕ)). length (concat ps)) none in
    let begin : rest_offset part ≡ 0 = omega (arith, nothing) in
    let here : rest_offset (grown_file file more) ≡ at = omega (arith, g.offset, nothing, there.1) in
    let left : rest_of (grown_file file more) ≡ rest_of file ++ more =
    sym g.rest ∙ ap (λ (k : ℕ). drop k (rest_of file ++ more)) begin in
    rw (left, d, here) refl

-- bytes that are long enough begin with a record or with a claim of too much
long-begins : (order : Endianness) (bytes : List ℕ) → 16 + most_captured ≤ length bytes
    → begins_with_record order bytes ≡ false
    → begins_with_damage order bytes ≡ true
unfolding begins_with_record begins_with_damage
long-begins order bytes long none = grind (arith, nat_tests)

pub rest_whole : (file : CaptureFile) → file.start ≤ length file.bytes
    → rest_offset file + tail_of file ≡ length file.bytes
rest_whole file h =
    let cut = file_is_cut file h in
    let all : length file.bytes ≡ length (take file.start file.bytes)
    + (length (concat (parts_of file)) + tail_of file) =
    ap length cut.together ∙ length-append (take file.start file.bytes) (concat (parts_of file) ++ rest_of file)
    ∙ ap (λ (k : ℕ). length (take file.start file.bytes) + k) (length-append (concat (parts_of file)) (rest_of file)) in
    omega (arith, all, h, length-take file.start file.bytes, length-drop (rest_offset file) file.bytes)

pub short_rest : (file : CaptureFile) → file.start ≤ length file.bytes → damage_of file ≡ None
    → tail_of file < 16 + most_captured
short_rest file h sound =
    let cut = file_is_cut file h in
    let no : begins_with_damage file.order (rest_of file) ≡ false =
    elim (cases_Bool (begins_with_damage file.order (rest_of file))) [
      | inl d ↦ absurd (let e : Some (rest_offset file) ≡ None = rw d at sound in cc)
      | inr d ↦ d
    ] in
    elim (cases_lt (tail_of file) (16 + most_captured)) [
      | inl short ↦ short
      | inr long ↦ absurd (let d = long-begins file.order (rest_of file) long cut.ended in cc)
    ]

pub begins_with_more : (file : CaptureFile) → file.start + 16 + most_captured ≤ length file.bytes → BeginsWithMore file
begins_with_more file long =
    let left = drop file.start file.bytes in
    let enough : 16 + most_captured ≤ length left = omega (arith, long, length-drop file.start file.bytes) in
    elim (cases_Bool (begins_with_record file.order left)) [
      | inl found ↦
          let one =
          ap length
          (record_parts-record file.order file.bytes file.start _
          (ends_at file.order file.bytes file.start (omega arith) found)) in
          inl (omega (arith, one, length-map (parts_of file) (packet_record file.order)))
      | inr missing ↦
          let none : parts_of file ≡ [] = record_parts-rest file.order file.bytes file.start missing in
          let nothing : length (concat (parts_of file)) ≡ 0 = ap (λ (ps : List (List ℕ)). length (concat ps)) none in
          let here : rest_offset file ≡ file.start = omega (arith, nothing) in
          let d : begins_with_damage file.order left ≡ true = long-begins file.order left enough missing in
          inr (rw (here, d) refl)
    ]
