-- What was written so far is a beginning of the capture.
use Rattle.std.proofs.Common.{◌≡◌, ℕ, ◌+◌, ◌≤◌, List, [], ◌∷◌, ◌++◌, length, take, drop, Some, Ok, Err, refl, sym, ap}
use Rattle.std.proofs.Common.{subst, ◌∙◌, append_assoc, append-nil, add-one}
use Rattle.std.specs.Prelude.{map, slice_get, Result, OnOk, OnErr}
use Rattle.std.specs.List.{concat}
use Rattle.std.specs.declared.option.Option.{Option}
use Rattle.std.specs.Io.KnownBytes.{Appends}
use Rattle.std.proofs.KnownBytes.{Appends-trans}
use Rattle.std.proofs.lemmas.List.{take-append-drop, take_at, take_all}
use Rattle.std.proofs.lemmas.Option.{slice_get_within, get_or_from_slice_get}
use Rattle.std.proofs.Math.Seq.{take-suc}
use Rattle.sink_buffer.specs.Passing.{IsPassed}
use Rattle.pcap_reader.specs.Records.{PacketRecord}
use Rattle.pcapng_reader.specs.Records.{LinkedRecord}
use Rattle.pcapng_reader.specs.Filtered.{header_octets, record_octets, octets_of_record, capture_of, file_header}

octets-together : (first others : List LinkedRecord)
    → concat (map octets_of_record (first ++ others)) ≡ concat (map octets_of_record first)
    ++ concat (map octets_of_record others)
octets-together [] others = refl
octets-together (linked ∷ first) others =
    ap (λ (rest : List ℕ). octets_of_record linked ++ rest) (octets-together first others)
    ∙ sym (append_assoc (octets_of_record linked) (concat (map octets_of_record first))
    (concat (map octets_of_record others)))

capture-together : (first others : List LinkedRecord)
    → capture_of (first ++ others) ≡ capture_of first ++ concat (map octets_of_record others)
capture-together first others = ap (λ (rest : List ℕ). file_header ++ rest) (octets-together first others)
    ∙ sym (append_assoc file_header (concat (map octets_of_record first)) (concat (map octets_of_record others)))

-- one record more
pub capture-more : (records : List LinkedRecord) (n : ℕ) (linked : LinkedRecord) → slice_get records n ≡ Some linked
    → capture_of (take (n + 1) records) ≡ capture_of (take n records) ++ octets_of_record linked
capture-more records n linked is =
    let one : take (n + 1) records ≡ take n records ++ linked ∷ [] =
    ap (λ (k : ℕ). take k records) (add-one n) ∙ take-suc records n linked (slice_get_within records n linked is)
    ∙ ap (λ (l : LinkedRecord). take n records ++ l ∷ []) (get_or_from_slice_get records n linked linked is) in
    ap capture_of one ∙ capture-together (take n records) (linked ∷ [])
    ∙ ap (λ (rest : List ℕ). capture_of (take n records) ++ rest) (append-nil (octets_of_record linked))

-- the capture of the first records is a beginning of that of all
capture-begun : (records : List LinkedRecord) (n : ℕ)
    → capture_of records ≡ capture_of (take n records) ++ concat (map octets_of_record (drop n records))
capture-begun records n = ap capture_of (sym (take-append-drop n records))
    ∙ capture-together (take n records) (drop n records)

-- what is written of a record: its header, and its captured octets
pub record-halves : (rec : PacketRecord) → header_octets rec ++ rec.captured ≡ record_octets rec
record-halves rec = simp append_assoc

-- one piece passed behind another
pub passed-then : (a b c : Option (List ℕ)) (old held now first second whole : List ℕ) → IsPassed a b old held first
    → IsPassed b c held now second → first ++ second ≡ whole → IsPassed a c old now whole
passed-then a b c old held now first second whole one other is = record {
  taken = one.taken ++ other.taken;
  appended = Appends-trans a b c one.taken other.taken one.appended other.appended;
  whole = append_assoc one.taken other.taken now ∙ ap (λ (l : List ℕ). one.taken ++ l) other.whole
      ∙ sym (append_assoc one.taken held second) ∙ ap (λ (l : List ℕ). l ++ second) one.whole
      ∙ append_assoc old first second ∙ ap (λ (l : List ℕ). old ++ l) is;
}

-- the first of two pieces passed in part
pub passed-short : (a b : Option (List ℕ)) (old left first second whole : List ℕ) → IsPassed a b old left first
    → first ++ second ≡ whole → IsPassed a b old (left ++ second) whole
passed-short a b old left first second whole one is = record {
  taken = one.taken;
  appended = one.appended;
  whole = sym (append_assoc one.taken left second) ∙ ap (λ (l : List ℕ). l ++ second) one.whole
      ∙ append_assoc old first second ∙ ap (λ (l : List ℕ). old ++ l) is;
}

-- nothing passed
pub passed-nothing : (a : Option (List ℕ)) (old : List ℕ) → Appends a a [] → IsPassed a a old old []
passed-nothing a old none = record { taken = []; appended = none; whole = sym (append-nil old) }

-- what passed an empty buffer is a beginning of the capture
pub begun-capture : (a b : Option (List ℕ)) (empty left written : List ℕ) (records : List LinkedRecord) (n : ℕ)
    → empty ≡ [] → IsPassed a b empty left written → written ≡ capture_of (take n records)
    → (k : ℕ) × Appends a b (take k (capture_of records))
begun-capture a b empty left written records n none passed is =
    let more = concat (map octets_of_record (drop n records)) in
    let front : passed.taken ++ left ≡ capture_of (take n records) =
    passed.whole ∙ ap (λ (l : List ℕ). l ++ written) none ∙ is in
    let split : capture_of records ≡ passed.taken ++ (left ++ more) =
    capture-begun records n ∙ ap (λ (l : List ℕ). l ++ more) (sym front) ∙ append_assoc passed.taken left more in
    let there : take (length passed.taken) (capture_of records) ≡ passed.taken =
    ap (take (length passed.taken)) split ∙ take_at passed.taken (left ++ more) (length passed.taken) refl in
    (length passed.taken, subst (Appends a b) (sym there) passed.appended)

-- the sink takes what is held
pub out-whole : (a b c : Option (List ℕ)) (empty held written : List ℕ) → empty ≡ [] → IsPassed a b empty held written
    → Appends b c held → Appends a c written
out-whole a b c empty held written none passed taken =
    subst (Appends a c) (passed.whole ∙ ap (λ (l : List ℕ). l ++ written) none)
    (Appends-trans a b c passed.taken held passed.appended taken)

-- or a beginning of it
pub out-begun : (a b c : Option (List ℕ)) (empty held written : List ℕ) (records : List LinkedRecord) (n count : ℕ)
    → empty ≡ [] → IsPassed a b empty held written → Appends b c (take count held)
    → written ≡ capture_of (take n records) → (k : ℕ) × Appends a c (take k (capture_of records))
out-begun a b c empty held written records n count none passed taken is =
    begun-capture a c empty (drop count held) written records n none
    (record {
      taken = passed.taken ++ take count held;
      appended = Appends-trans a b c passed.taken (take count held) passed.appended taken;
      whole = append_assoc passed.taken (take count held) (drop count held)
          ∙ ap (λ (l : List ℕ). passed.taken ++ l) (take-append-drop count held) ∙ passed.whole;
    })
    is

-- behind the last record the capture is whole
pub capture-whole : (records : List LinkedRecord) (n : ℕ) → length records ≤ n
    → capture_of (take n records) ≡ capture_of records
capture-whole records n all = ap capture_of (take_all n records all)

pub on-ok : {T E : Type 0} (r : Result T E) (P Q : Type 0) → (P → Q) → OnOk r P → OnOk r Q
on-ok (Ok x) P Q f h = f h
on-ok (Err e) P Q f h = tt

pub on-err : {T E : Type 0} (r : Result T E) (P Q : Type 0) → (P → Q) → OnErr r P → OnErr r Q
on-err (Ok x) P Q f h = tt
on-err (Err e) P Q f h = f h
