-- Messages of a whole list, one after the other.
use Rattle.std.proofs.Common.{inl, inr, ◌≡◌, ◌≤◌, ◌<◌, ◌+◌, ◌%◌, ◌^◌, ℕ, zero, suc, List, [], ◌∷◌, ◌++◌, length}
use Rattle.std.proofs.Common.{take, drop, get_or, Some, refl, sym, ap, subst, ◌∙◌, arith}
use Rattle.std.proofs.Common.{take-append-drop, add-one}
use Rattle.std.proofs.Math.Seq.{drop-cons, take-suc}
use Rattle.std.proofs.lemmas.Bool.{cases_lt}
use Rattle.std.proofs.lemmas.List.{drop-drop, drop_all, length-take-le}
use Rattle.ipfix_writer.specs.Encoding.{message}
use Rattle.ipfix_writer.specs.Layout.{RecordSet, body_in, length_in, AreFilledBy, messages_in, together, IsStream}
use Rattle.ipfix_writer.specs.Emitting.{last_template, header_before}
use Rattle.ipfix_writer.proofs.Lengths.{length_in-snoc, length_in-nil, last_template-snoc}
use Rattle.ipfix_writer.proofs.OneLayout.{filled-some}

nothing : {A : Type 0} (x : A) (xs : List A) → [] ≡ x ∷ xs → ⊥
nothing x xs is = cc

-- the first records and one more
taken-more : {A : Type 0} (records : List A) (count : ℕ) (x : A) → count < length records → x ≡ get_or records count x
    → take (count + 1) records ≡ take count records ++ x ∷ []
taken-more records count x inside is =
    ap (λ n. take n records) (add-one count) ∙ take-suc records count x inside
    ∙ ap (λ y. take count records ++ y ∷ []) (sym is)

pub length_in-taken : {A : Type 0} (encode : A → RecordSet) (records : List A) (count : ℕ) (x : A)
    → count < length records → x ≡ get_or records count x
    → length_in encode (take (count + 1) records)
    ≡ length_in encode (take count records) + header_before (last_template encode (take count records))
    (encode x).template + length (encode x).records
length_in-taken encode records count x inside is =
    ap (length_in encode) (taken-more records count x inside is) ∙ length_in-snoc encode (take count records) x

pub last_template-taken : {A : Type 0} (encode : A → RecordSet) (records : List A) (count : ℕ) (x : A)
    → count < length records → x ≡ get_or records count x
    → last_template encode (take (count + 1) records) ≡ Some (encode x).template
last_template-taken encode records count x inside is =
    ap (last_template encode) (taken-more records count x inside is) ∙ last_template-snoc encode (take count records) x

-- the length of the message of one record
pub length_in-one : {A : Type 0} (encode : A → RecordSet) (x : A)
    → length_in encode (x ∷ []) ≡ 20 + length (encode x).records
length_in-one encode x =
    let more = length_in-snoc encode [] x in
    let empty = length_in-nil encode in
    omega arith

-- where one more record doesn't fit, there is one before it
pub some-before : {A : Type 0} (encode : A → RecordSet) (records : List A) (count size : ℕ) → count < length records
    → ((x : A) → length_in encode (x ∷ []) ≤ size) → size < length_in encode (take (count + 1) records) → 0 < count
some-before encode [] count size inside alone full = absurd (omega (arith, inside))
some-before encode (x ∷ records) zero size inside alone full = absurd (let fits = alone x in omega arith)
some-before encode (x ∷ records) (suc count) size inside alone full = omega arith

-- a message of one record shows that one of none fits
pub least-size : {A : Type 0} (encode : A → RecordSet) (records : List A) (size : ℕ) → 0 < length records
    → ((x : A) → length_in encode (x ∷ []) ≤ size) → 16 ≤ size
least-size encode [] size some alone = absurd (omega (arith, some))
least-size encode (x ∷ records) size some alone = let fits = alone x in let long = length_in-one encode x in omega arith

-- What is left from a place on is laid out as these bytes.
pub record IsRest {A : Type 0} (encode : A → RecordSet) (size export_time : ℕ) (records : List A) (from : ℕ)
    (bytes : List ℕ) : Type 0 where
  pub parts : List (List A)
  pub whole : together parts ≡ drop from records
  pub filled : AreFilledBy encode size parts
  pub written : bytes ≡ messages_in encode export_time from parts

-- one more message in front of filled ones
filled-front : {A : Type 0} (encode : A → RecordSet) (size : ℕ) (p : List A) (parts : List (List A)) → 0 < length p
    → length_in encode p ≤ size
    → AreFilledBy encode size parts
    → ((x : A) (others : List A) → together parts ≡ x ∷ others → size < length_in encode (p ++ x ∷ []))
    → AreFilledBy encode size (p ∷ parts)
unfolding AreFilledBy
filled-front encode size p [] some fits filled full = (some, fits)
filled-front encode size p ([] ∷ parts) some fits filled full =
    absurd (omega (arith, filled-some encode size [] parts filled))
filled-front encode size p ((x ∷ next) ∷ parts) some fits filled full =
    (some, fits, full x (next ++ together parts) refl, filled)

-- a record behind the first ones of what is left
next_is : {A : Type 0} (rest : List A) (count : ℕ) (x : A) (others : List A) → drop count rest ≡ x ∷ others
    → (count < length rest) × (take (count + 1) rest ≡ take count rest ++ x ∷ [])
next_is rest count x others is = elim (cases_lt count (length rest)) [
  | inl inside ↦
      (let first : get_or rest count x ≡ x = head (sym (drop-cons rest count x inside) ∙ is) in
      (inside, taken-more rest count x inside (sym first)))
  | inr past ↦ absurd (nothing x others (sym (drop_all count rest past) ∙ is))
]
  where
    head : {A : Type 0} {x y : A} {xs ys : List A} → x ∷ xs ≡ y ∷ ys → x ≡ y
    head is = cc

pub rest-more : {A : Type 0} (encode : A → RecordSet) (size export_time : ℕ) (records rest : List A) (from count : ℕ)
    (bytes : List ℕ)
    → rest ≡ drop from records → 0 < count → count ≤ length rest → length_in encode (take count rest) ≤ size
    → (count < length rest → size < length_in encode (take (count + 1) rest))
    → IsRest encode size export_time records (from + count) bytes
    → IsRest encode size export_time records from
    (message export_time (from % 2 ^ 32) (body_in encode (take count rest)) ++ bytes)
unfolding messages_in
rest-more encode size export_time records rest from count bytes rest_is some within fits full left =
    let p = take count rest in
    let long : length p ≡ count = length-take-le count rest within in
    let behind : together left.parts ≡ drop count rest =
    left.whole ∙ sym (drop-drop count from records) ∙ ap (drop count) (sym rest_is) in
    record {
      parts = p ∷ left.parts;
      whole = ap (λ xs. p ++ xs) behind ∙ take-append-drop count rest ∙ rest_is;
      filled = filled-front encode size p left.parts (omega (arith, long)) fits left.filled (λ x others is.
          let next = next_is rest count x others (sym behind ∙ is) in
          subst (λ xs. size < length_in encode xs) next.1 (full next.0));
      written = ap (λ bs. message export_time (from % 2 ^ 32) (body_in encode p) ++ bs)
          (left.written ∙ ap (λ n. messages_in encode export_time (from + n) left.parts) (sym long));
    }

-- nothing is left
pub rest-end : {A : Type 0} (encode : A → RecordSet) (size export_time : ℕ) (records : List A) (from : ℕ)
    → length records ≤ from
    → IsRest encode size export_time records from []
unfolding AreFilledBy messages_in
rest-end encode size export_time records from past = record {
  parts = [];
  whole = sym (drop_all from records past);
  filled = tt;
  written = refl;
}

-- all of it
pub rest-all : {A : Type 0} (encode : A → RecordSet) (size export_time : ℕ) (first : List ℕ) (records : List A)
    (bytes : List ℕ)
    → IsRest encode size export_time records 0 bytes → IsStream encode size export_time first records (first ++ bytes)
rest-all encode size export_time first records bytes rest = record {
  parts = rest.parts;
  whole = rest.whole;
  filled = rest.filled;
  written = ap (λ bs. first ++ bs) rest.written;
}
