-- Places that are added to the lists of their shares.
use Rattle.std.proofs.Common.{◌≡◌, ℕ, zero, suc, ◌+◌, ◌<◌, List, [], ◌∷◌, ◌++◌, length, get_or, set, take, sym, ap, ◌∙◌}
use Rattle.std.proofs.Common.{subst, arith, append_assoc, append-nil, add-one, All, IsPermutation, Vec, Global}
use Rattle.std.proofs.lemmas.List.{length-set}
use Rattle.std.proofs.lemmas.List.Elements.{All-append}
use Rattle.std.proofs.lemmas.List.Sorted.{IsPermutation-trans, IsPermutation-append_left, IsPermutation-to_front}
use Rattle.flow_parts.proofs.Members.{All-one}
use Rattle.record_ledger.specs.declared.record.FlowRecord.{FlowRecord}
use Rattle.record_ledger.specs.declared.place.Place.{Place}
use Rattle.record_ledger.specs.Buckets.{AreShared, Bucket, SharedFrom, bucket_places, leading_number, places_from, places_of}
use Rattle.record_ledger.specs.Buckets.{share_number}
use Rattle.record_ledger.proofs.Dealt.{pushed}

-- one more place in the list of its share
shared_on : (ends : List ℕ) (i : ℕ) (ls : List (Vec Place Global)) (j : ℕ) (l : Vec Place Global) (p : Place)
    (d : Vec Place Global) → j < length ls → l.items ≡ (get_or ls j d).items ++ p ∷ [] → share_number ends p.last ≡ i + j
    → SharedFrom ends i ls → SharedFrom ends i (set ls j l)
shared_on ends i [] j l p d low e is h = tt
shared_on ends i (m ∷ ls) zero l p d low e is h = (
  subst (All (λ (p : Place). share_number ends p.last ≡ i)) (sym e)
      (All-append (λ (p : Place). share_number ends p.last ≡ i) m.items (p ∷ []) h.0
      (All-one (λ (p : Place). share_number ends p.last ≡ i) p (omega (arith, is)))),
  h.1,
)
shared_on ends i (m ∷ ls) (suc j) l p d low e is h =
    (h.0, shared_on ends (suc i) ls j l p d (omega (arith, low)) e (omega (arith, is)) h.1)

-- one more place in the lists of all shares
pub shared_pushed : (ends : List ℕ) (ls : List (Vec Place Global)) (j : ℕ) (l : Vec Place Global) (p : Place)
    (d : Vec Place Global) → j < length ls → l.items ≡ (get_or ls j d).items ++ p ∷ [] → j ≡ share_number ends p.last
    → AreShared ends ls → AreShared ends (set ls j l)
shared_pushed ends ls j l p d low e is h =
    (length-set ls j l ∙ h.0, shared_on ends 0 ls j l p d low e (omega (arith, is)) h.1)

-- what was added, and what is added after it
added_on : {X : Type 0} (A B C Y Z : List X) → IsPermutation (A ++ B) Y → IsPermutation (Y ++ C) Z
    → IsPermutation (A ++ (B ++ C)) Z
added_on A B C Y Z h k = IsPermutation-trans (A ++ (B ++ C)) (Y ++ C) Z
    (subst (λ l. IsPermutation l (Y ++ C)) (append_assoc A B C) (IsPermutation-append_left C (A ++ B) Y h)) k

-- the place of one more record
next_place : (n i at : ℕ) (items : List FlowRecord) (r : FlowRecord) (p : Place) → at < length items
    → r ≡ get_or items at r → p.last ≡ r.part.last → p.leading ≡ leading_number r.part.key → p.bucket ≡ n → p.at ≡ i + at
    → places_from n i (take (suc at) items) ≡ places_from n i (take at items) ++ p ∷ []
next_place n i at [] r p l is el ek eb ea = absurd (omega (arith, l))
next_place n i zero (s ∷ items) r p l is el ek eb ea =
    let last : s.part.last ≡ p.last = sym (el ∙ ap (λ (r : FlowRecord). r.part.last) is) in
    let leading : leading_number s.part.key ≡ p.leading =
    sym (ek ∙ ap (λ (r : FlowRecord). leading_number r.part.key) is) in
    let bucket : n ≡ p.bucket = sym eb in
    let at : i ≡ p.at = omega (arith, ea) in
    λ j. record { last = last j; leading = leading j; bucket = bucket j; at = at j } ∷ []
next_place n i (suc at) (s ∷ items) r p l is el ek eb ea =
    ap (λ ps. record { last = s.part.last; leading = leading_number s.part.key; bucket = n; at = i } ∷ ps)
    (next_place n (suc i) at items r p (omega (arith, l)) is el ek eb (omega (arith, ea)))

-- one more record of a bucket has its place in the list of its share
pub place_added : (n at : ℕ) (items : List FlowRecord) (r : FlowRecord) (p : Place) (F : List Place)
    (ls : List (Vec Place Global)) (j : ℕ) (l d : Vec Place Global) → at < length items → r ≡ get_or items at r
    → p.last ≡ r.part.last → p.leading ≡ leading_number r.part.key → p.bucket ≡ n → p.at ≡ at
    → j < length ls → l.items ≡ (get_or ls j d).items ++ p ∷ []
    → IsPermutation (F ++ places_from n 0 (take at items)) (places_of ls)
    → IsPermutation (F ++ places_from n 0 (take (at + 1) items)) (places_of (set ls j l))
place_added n at items r p F ls j l d low is el ek eb ea below e h =
    subst (λ ps. IsPermutation (F ++ ps) (places_of (set ls j l)))
    (sym (ap (λ m. places_from n 0 (take m items)) (add-one at)
    ∙ next_place n 0 at items r p low is el ek eb (omega (arith, ea))))
    (added_on F (places_from n 0 (take at items)) (p ∷ []) (places_of ls) (places_of (set ls j l)) h
    (IsPermutation-trans (places_of ls ++ p ∷ []) (p ∷ places_of ls) (places_of (set ls j l))
    (IsPermutation-to_front (places_of ls) p) (pushed ls j l p d below e)))

-- the places of the buckets up to one more
next_bucket : (n i : ℕ) (bs : List Bucket) (b : Bucket) → i < length bs → b ≡ get_or bs i b
    → bucket_places n (take (suc i) bs) ≡ bucket_places n (take i bs) ++ places_from (n + i) 0 b.items
next_bucket n i [] b l is = absurd (omega (arith, l))
next_bucket n zero (c ∷ bs) b l is =
    let number : n ≡ n + 0 = omega arith in
    append-nil (places_from n 0 c.items)
    ∙ (λ j. places_from (number j) 0 ((sym is) j).items)
next_bucket n (suc i) (c ∷ bs) b l is =
    let number : suc n + i ≡ n + suc i = omega arith in
    ap (λ ps. places_from n 0 c.items ++ ps) (next_bucket (suc n) i bs b (omega (arith, l)) is
    ∙ ap (λ m. bucket_places (suc n) (take i bs) ++ places_from m 0 b.items) number)
    ∙ sym (append_assoc (places_from n 0 c.items) (bucket_places (suc n) (take i bs)) (places_from (n + suc i) 0 b.items))

-- the places of one more bucket
pub bucket_added : (n i : ℕ) (bs : List Bucket) (b : Bucket) (F Y Z : List Place) → i < length bs → b ≡ get_or bs i b
    → IsPermutation (F ++ bucket_places n (take i bs)) Y → IsPermutation (Y ++ places_from (n + i) 0 b.items) Z
    → IsPermutation (F ++ bucket_places n (take (i + 1) bs)) Z
bucket_added n i bs b F Y Z l is h k =
    subst (λ ps. IsPermutation (F ++ ps) Z)
    (sym (ap (λ m. bucket_places n (take m bs)) (add-one i) ∙ next_bucket n i bs b l is))
    (added_on F (bucket_places n (take i bs)) (places_from (n + i) 0 b.items) Y Z h k)
