-- Copies of the records of a list, put together.
use Rattle.std.proofs.Common.{◌≡◌, ◌∙◌, ◌+◌, ◌*◌, ◌<◌, ◌++◌, ◌∷◌, [], ℕ, suc, List, length, take, drop, get_or, min}
use Rattle.std.proofs.Common.{sym, ap, ap₂, arith, add-one, flat_map, append-nil, append_assoc}
use Rattle.std.proofs.Common.{take-append-drop, drop-drop}
use Rattle.std.proofs.Math.Seq.{take-suc, take-add}
use Rattle.std.proofs.Math.Nat.{zero-mul, suc-mul, add_comm}
use Rattle.std.proofs.lemmas.Grind.{flat_map-append}
use Rattle.std.proofs.lemmas.List.{drop_min, take_min}
use Rattle.record_ledger.specs.declared.record.FlowRecord.{FlowRecord}
use Rattle.ipfix_writer.specs.Layout.{together}
use Rattle.ipfix_writer.specs.Copies.{Part, records_of, HasCopies, HaveCopies}

-- what comes of the elements up to a place, and of the one there
pub put-one : {A X : Type 0} (f : A → List X) (xs : List A) (i : ℕ) (x : A) → i < length xs → x ≡ get_or xs i x
    → flat_map f (take i xs) ++ f x ≡ flat_map f (take (i + 1) xs)
put-one f xs i x inside is =
    let more : take i xs ++ x ∷ [] ≡ take (i + 1) xs =
    ap (λ y. take i xs ++ y ∷ []) is ∙ sym (take-suc xs i x inside) ∙ ap (λ n. take n xs) (sym (add-one i)) in
    ap (λ ys. flat_map f (take i xs) ++ ys) (sym (append-nil (f x))) ∙ sym (flat_map-append f (take i xs) (x ∷ []))
    ∙ ap (flat_map f) more

-- and of those behind it
pub put-split : {A X : Type 0} (f : A → List X) (xs : List A) (i : ℕ) (x : A) → i < length xs → x ≡ get_or xs i x
    → flat_map f (take i xs) ++ (f x ++ flat_map f (drop (i + 1) xs)) ≡ flat_map f xs
put-split f xs i x inside is =
    let left = flat_map f (drop (i + 1) xs) in
    sym (append_assoc (flat_map f (take i xs)) (f x) left) ∙ ap (λ ys. ys ++ left) (put-one f xs i x inside is)
    ∙ sym (flat_map-append f (take (i + 1) xs) (drop (i + 1) xs)) ∙ ap (flat_map f) (take-append-drop (i + 1) xs)

-- stretches of a list, each behind the one before it
pub put-together : {A X : Type 0} (f : A → List X) (width : ℕ) (parts : List A) (from : ℕ) (xs : List X)
    → ((k : ℕ) (d : A) → k < length parts → f (get_or parts k d) ≡ take width (drop (from + k * width) xs))
    → flat_map f parts ≡ take (length parts * width) (drop from xs)
put-together f width [] from xs h = ap (λ n. take n (drop from xs)) (sym (zero-mul width))
put-together f width (part ∷ parts) from xs h =
    let count = length parts * width in
    let here : from + 0 * width ≡ from = omega arith in
    let first : f part ≡ take width (drop from xs) =
    h 0 part (omega arith) ∙ ap (λ n. take width (drop n xs)) here in
    let further : (k : ℕ) → from + suc k * width ≡ (from + width) + k * width =
    λ k. (let e = suc-mul k width in omega (arith, e)) in
    let rest : flat_map f parts ≡ take count (drop (from + width) xs) =
    put-together f width parts (from + width) xs (λ k d l. h (suc k) d (omega (arith, l))
    ∙ ap (λ n. take width (drop n xs)) (further k)) in
    let both : length (part ∷ parts) * width ≡ width + count = suc-mul (length parts) width ∙ add_comm count width in
    ap₂ (λ ys zs. ys ++ zs) first (rest ∙ ap (take count) (sym (drop-drop width from xs)))
    ∙ sym (take-add width count (drop from xs)) ∙ ap (λ n. take n (drop from xs)) (sym both)

-- the runs of a part
pub part-copied : (records : List FlowRecord) (from : ℕ) (part : List (List FlowRecord)) → length part ≡ 256
    → ((k : ℕ) (d : List FlowRecord) → k < length part → get_or part k d ≡ take 16 (drop (from + k * 16) records))
    → together part ≡ take 4096 (drop from records)
part-copied records from part many h = put-together (λ run. run) 16 part from records h
    ∙ ap (λ n. take (n * 16) (drop from records)) many

-- a part that begins at the list's end, where its place is behind it
pub copies-behind : (records : List FlowRecord) (from place : ℕ) (part : Part) → place ≡ min from (length records)
    → HasCopies records place part → HasCopies records from part
copies-behind records from place part is has = record {
  whole = has.whole;
  copies = has.copies ∙ ap (take 4096) (ap (λ n. drop n records) is ∙ drop_min from records);
}

-- the parts of a round
pub round-copied : (records : List FlowRecord) (from : ℕ) (parts : List Part) → HaveCopies records from parts
    → records_of parts ≡ take (length parts * 4096) (drop from records)
round-copied records from parts have =
    put-together (λ (part : Part). together part.items) 4096 parts from records (λ k d l. (have k d l).copies)

-- the records up to the end of a round
pub round-taken : (records : List FlowRecord) (from behind : ℕ) (parts : List Part) → HaveCopies records from parts
    → behind ≡ min (from + length parts * 4096) (length records)
    → take from records ++ records_of parts ≡ take behind records
round-taken records from behind parts have is =
    let place = from + length parts * 4096 in
    ap (λ rs. take from records ++ rs) (round-copied records from parts have)
    ∙ sym (take-add from (length parts * 4096) records) ∙ sym (take_min place records)
    ∙ ap (λ n. take n records) (sym is)

-- the records up to a round, those of the round, and those behind it
pub round-split : (records : List FlowRecord) (from behind : ℕ) (parts : List Part) → HaveCopies records from parts
    → behind ≡ min (from + length parts * 4096) (length records)
    → take from records ++ (records_of parts ++ drop behind records) ≡ records
round-split records from behind parts have is =
    sym (append_assoc (take from records) (records_of parts) (drop behind records))
    ∙ ap (λ rs. rs ++ drop behind records) (round-taken records from behind parts have is)
    ∙ take-append-drop behind records
