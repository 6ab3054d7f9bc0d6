-- The layout of records is one value.
use Rattle.std.proofs.Common.{◌≡◌, ◌≤◌, ◌<◌, ℕ, List, [], ◌∷◌, ◌++◌, length, refl, sym, ap, ◌∙◌, subst, arith}
use Rattle.std.proofs.Common.{append_assoc}
use Rattle.ipfix_writer.specs.Layout.{RecordSet, length_in, AreFilledBy, messages_in, together, IsStream}
use Rattle.ipfix_writer.proofs.Lengths.{length_in-more}

nothing : {A : Type 0} {x : A} {xs : List A} → [] ≡ x ∷ xs → ⊥
nothing is = cc

-- one list goes on behind another
record GoesOnBehind {A : Type 0} (front long rest more : List A) : Type 0 where
  first : A
  others : List A
  long_is : long ≡ front ++ first ∷ others
  rest_is : rest ≡ first ∷ (others ++ more)

-- of two fronts of one list, either both are one, or one goes on behind the other
data Fronts {A : Type 0} (p rest q more : List A) : Type 0 where
  same : p ≡ q → rest ≡ more → Fronts p rest q more
  shorter : GoesOnBehind p q rest more → Fronts p rest q more
  longer : GoesOnBehind q p more rest → Fronts p rest q more

fronts-cons : {A : Type 0} (x y : A) (p rest q more : List A) → x ≡ y → Fronts p rest q more
    → Fronts (x ∷ p) rest (y ∷ q) more
fronts-cons x y p rest q more is (same e f) = same (λ i. is i ∷ e i) f
fronts-cons x y p rest q more is (shorter g) = shorter (record {
  first = g.first;
  others = g.others;
  long_is = λ i. sym is i ∷ g.long_is i;
  rest_is = g.rest_is;
})
fronts-cons x y p rest q more is (longer g) = longer (record {
  first = g.first;
  others = g.others;
  long_is = λ i. is i ∷ g.long_is i;
  rest_is = g.rest_is;
})

head_same : {A : Type 0} (x y : A) (xs ys : List A) → x ∷ xs ≡ y ∷ ys → x ≡ y
head_same x y xs ys is = cc

tail_same : {A : Type 0} (x y : A) (xs ys : List A) → x ∷ xs ≡ y ∷ ys → xs ≡ ys
tail_same x y xs ys is = cc

fronts : {A : Type 0} (p rest q more : List A) → p ++ rest ≡ q ++ more → Fronts p rest q more
fronts [] rest [] more is = same refl is
fronts [] rest (y ∷ q) more is = shorter (record { first = y; others = q; long_is = refl; rest_is = is })
fronts (x ∷ p) rest [] more is = longer (record { first = x; others = p; long_is = refl; rest_is = sym is })
fronts (x ∷ p) rest (y ∷ q) more is =
    fronts-cons x y p rest q more (head_same x y (p ++ rest) (q ++ more) is)
    (fronts p rest q more (tail_same x y (p ++ rest) (q ++ more) is))

-- the first of some filled messages
pub filled-some : {A : Type 0} (encode : A → RecordSet) (size : ℕ) (p : List A) (parts : List (List A))
    → AreFilledBy encode size (p ∷ parts) → 0 < length p
unfolding AreFilledBy
filled-some encode size p [] filled = filled.0
filled-some encode size p (next ∷ parts) filled = filled.0

pub filled-fits : {A : Type 0} (encode : A → RecordSet) (size : ℕ) (p : List A) (parts : List (List A))
    → AreFilledBy encode size (p ∷ parts) → length_in encode p ≤ size
unfolding AreFilledBy
filled-fits encode size p [] filled = filled.1
filled-fits encode size p (next ∷ parts) filled = filled.1

pub filled-rest : {A : Type 0} (encode : A → RecordSet) (size : ℕ) (p : List A) (parts : List (List A))
    → AreFilledBy encode size (p ∷ parts) → AreFilledBy encode size parts
unfolding AreFilledBy
filled-rest encode size p [] filled = tt
filled-rest encode size p (next ∷ parts) filled = filled.3

-- where a record is left behind the first message, the message with it is too long
filled-full : {A : Type 0} (encode : A → RecordSet) (size : ℕ) (p : List A) (parts : List (List A)) (x : A)
    (others : List A) → AreFilledBy encode size (p ∷ parts)
    → together parts ≡ x ∷ others → size < length_in encode (p ++ x ∷ [])
unfolding AreFilledBy
filled-full encode size p [] x others filled is = absurd (nothing is)
filled-full encode size p ([] ∷ parts) x others filled is =
    absurd (omega (arith, filled-some encode size [] parts filled.3))
filled-full encode size p ((y ∷ next) ∷ parts) x others filled is =
    subst (λ z. size < length_in encode (p ++ z ∷ [])) (head_same y x (next ++ together parts) others is) filled.2

-- a message can't go on behind one that is filled
not_longer : {A : Type 0} (encode : A → RecordSet) (size : ℕ) (p q : List A) (parts : List (List A)) (more : List A)
    → AreFilledBy encode size (p ∷ parts)
    → length_in encode q ≤ size → GoesOnBehind p q (together parts) more → ⊥
not_longer encode size p q parts more filled fits g =
    let full = filled-full encode size p parts g.first (g.others ++ more) filled g.rest_is in
    let longer_by = length_in-more encode (p ++ g.first ∷ []) g.others in
    let whole : length_in encode ((p ++ g.first ∷ []) ++ g.others) ≡ length_in encode q =
    ap (length_in encode) (append_assoc p (g.first ∷ []) g.others ∙ sym g.long_is) in
    omega arith

no_parts : {A : Type 0} (encode : A → RecordSet) (size : ℕ) (p : List A) (parts : List (List A))
    → AreFilledBy encode size (p ∷ parts) → [] ≡ together (p ∷ parts) → ⊥
no_parts encode size [] parts filled is = omega (arith, filled-some encode size [] parts filled)
no_parts encode size (x ∷ p) parts filled is = nothing is

-- the cut into filled messages is one
pub parts-same : {A : Type 0} (encode : A → RecordSet) (size : ℕ) (parts others : List (List A))
    → AreFilledBy encode size parts → AreFilledBy encode size others
    → together parts ≡ together others → parts ≡ others
parts-same encode size [] [] filled filled' is = refl
parts-same encode size [] (q ∷ others) filled filled' is = absurd (no_parts encode size q others filled' is)
parts-same encode size (p ∷ parts) [] filled filled' is = absurd (no_parts encode size p parts filled (sym is))
parts-same encode size (p ∷ parts) (q ∷ others) filled filled' is =
    elim (fronts p (together parts) q (together others) is) [
      | same e f ↦
          (let rest = parts-same encode size parts others (filled-rest encode size p parts filled)
          (filled-rest encode size q others filled') f in
          λ i. e i ∷ rest i)
      | shorter g ↦ absurd
          (not_longer encode size p q parts (together others) filled (filled-fits encode size q others filled') g)
      | longer g ↦ absurd
          (not_longer encode size q p others (together parts) filled' (filled-fits encode size p parts filled) g)
    ]

pub stream-same : {A : Type 0} (encode : A → RecordSet) (size export_time : ℕ) (first : List ℕ) (xs : List A)
    (one other : List ℕ)
    → IsStream encode size export_time first xs one → IsStream encode size export_time first xs other → one ≡ other
stream-same encode size export_time first xs one other a b =
    a.written
    ∙ ap (λ parts. first ++ messages_in encode export_time 0 parts)
    (parts-same encode size a.parts b.parts a.filled b.filled (a.whole ∙ sym b.whole))
    ∙ sym b.written
