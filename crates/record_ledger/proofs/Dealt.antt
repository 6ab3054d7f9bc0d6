-- Records that lie in the buckets of their keys.
use Rattle.std.proofs.Common.{◌≡◌, ℕ, zero, suc, ◌+◌, ◌<◌, ◌≤◌, List, [], ◌∷◌, ◌++◌}
use Rattle.std.proofs.Common.{length, get_or, set, flat_map, sum_by, sym, ap, ◌∙◌, subst, arith, append-nil, append_assoc}
use Rattle.std.proofs.Common.{length-append, All, IsPermutation}
use Rattle.std.proofs.lemmas.Grind.{flat_map-append}
use Rattle.std.proofs.lemmas.List.{map-append}
use Rattle.std.proofs.lemmas.List.Sums.{sum_by-append}
use Rattle.std.proofs.lemmas.List.Elements.{All-append}
use Rattle.std.proofs.lemmas.List.Sorted.{IsPermutation-sym, IsPermutation-trans}
use Rattle.std.proofs.lemmas.List.Sorted.{IsPermutation-to_front, IsPermutation-append_comm}
use Rattle.std.proofs.lemmas.List.Sorted.{IsPermutation-append_left, IsPermutation-append_right}
use Rattle.std.proofs.Common.{Vec, Global}
use Rattle.flow_key.specs.Key.{set_number}
use Rattle.flow_parts.specs.declared.fragment.Fragment.{Fragment}
use Rattle.flow_parts.specs.Pieces.{items_of}
use Rattle.flow_parts.proofs.Members.{All-one}
use Rattle.record_ledger.specs.declared.record.FlowRecord.{FlowRecord}
use Rattle.record_ledger.specs.Lawful.{parts_of}
use Rattle.record_ledger.specs.Buckets.{Bucket, records_of, LieFrom}
use Rattle.record_ledger.proofs.Keyed.{part_of}

-- one more record in its bucket
pub lies_pushed : (n i : ℕ) (bs : List Bucket) (j : ℕ) (b : Bucket) (r : FlowRecord) (d : Bucket) → j < length bs
    → b.items ≡ (get_or bs j d).items ++ r ∷ [] → set_number r.part.key n ≡ i + j
    → LieFrom n i bs → LieFrom n i (set bs j b)
lies_pushed n i [] j b r d l e is h = tt
lies_pushed n i (c ∷ bs) zero b r d l e is h = (
  subst (All (λ (r : FlowRecord). set_number r.part.key n ≡ i)) (sym e)
      (All-append (λ (r : FlowRecord). set_number r.part.key n ≡ i) c.items (r ∷ []) h.0
      (All-one (λ (r : FlowRecord). set_number r.part.key n ≡ i) r (omega (arith, is)))),
  h.1,
)
lies_pushed n i (c ∷ bs) (suc j) b r d l e is h =
    (h.0, lies_pushed n (suc i) bs j b r d (omega (arith, l)) e (omega (arith, is)) h.1)

-- no records lie anywhere
pub none_lie : (n i : ℕ) (bs : List Bucket) → length (records_of bs) ≡ 0 → LieFrom n i bs
none_lie n i [] e = tt
none_lie n i (b ∷ bs) e = (
  λ k d l. absurd (omega (arith, e, length-append b.items (records_of bs))),
  none_lie n (suc i) bs (omega (arith, e, length-append b.items (records_of bs))),
)

-- a record behind a list, and before it
pub behind : {X : Type 0} (x : X) (xs ys : List X) → IsPermutation (x ∷ (xs ++ ys)) (xs ++ x ∷ ys)
behind x xs ys = subst (IsPermutation (x ∷ (xs ++ ys))) (append_assoc xs (x ∷ []) ys)
    (IsPermutation-append_left ys (x ∷ xs) (xs ++ x ∷ [])
    (IsPermutation-sym (xs ++ x ∷ []) (x ∷ xs) (IsPermutation-to_front xs x)))

-- two lists in the middle change places
pub inner_changed : {X : Type 0} (A B C D : List X) → IsPermutation ((A ++ B) ++ (C ++ D)) ((A ++ C) ++ (B ++ D))
inner_changed A B C D =
    subst (λ l. IsPermutation l ((A ++ C) ++ (B ++ D))) (sym (append_assoc A B (C ++ D)))
    (subst (IsPermutation (A ++ (B ++ (C ++ D)))) (sym (append_assoc A C (B ++ D)))
    (IsPermutation-append_right A (B ++ (C ++ D)) (C ++ (B ++ D))
    (subst (λ l. IsPermutation l (C ++ (B ++ D))) (append_assoc B C D)
    (subst (IsPermutation ((B ++ C) ++ D)) (append_assoc C B D)
    (IsPermutation-append_left D (B ++ C) (C ++ B) (IsPermutation-append_comm B C))))))

module _ {X : Type 0} where
  -- the elements of some lists, one list after the other
  abbrev pub elements : List (Vec X Global) → List X
  elements ls = flat_map (λ (v : Vec X Global). v.items) ls

  -- one more element in one of some lists
  pub pushed : (ls : List (Vec X Global)) (j : ℕ) (l : Vec X Global) (x : X) (d : Vec X Global) → j < length ls
      → l.items ≡ (get_or ls j d).items ++ x ∷ [] → IsPermutation (x ∷ elements ls) (elements (set ls j l))
  pushed [] j l x d low e = absurd (omega arith)
  pushed (c ∷ ls) zero l x d low e =
      subst (λ xs. IsPermutation (x ∷ (c.items ++ elements ls)) (xs ++ elements ls)) (sym e)
      (subst (IsPermutation (x ∷ (c.items ++ elements ls))) (sym (append_assoc c.items (x ∷ []) (elements ls)))
      (behind x c.items (elements ls)))
  pushed (c ∷ ls) (suc j) l x d low e =
      IsPermutation-trans (x ∷ (c.items ++ elements ls)) (c.items ++ x ∷ elements ls) (c.items ++ elements (set ls j l))
      (behind x c.items (elements ls))
      (IsPermutation-append_right c.items (x ∷ elements ls) (elements (set ls j l)) (pushed ls j l x d (omega arith) e))

-- the last fragments of some are moved
pub last_dealt : (A F rest dealt X Y : List Fragment) → F ≡ rest ++ dealt → IsPermutation A (F ++ X)
    → IsPermutation (dealt ++ X) Y → IsPermutation A (rest ++ Y)
last_dealt A F rest dealt X Y e h k = IsPermutation-trans A (rest ++ (dealt ++ X)) (rest ++ Y)
    (subst (IsPermutation A) (ap (λ l. l ++ X) e ∙ append_assoc rest dealt X) h)
    (IsPermutation-append_right rest (dealt ++ X) Y k)

-- the next fragment of some is moved
pub next_dealt : (A left rest : List Fragment) (part : Fragment) (X Y : List Fragment) → left ≡ part ∷ rest
    → IsPermutation A (left ++ X) → IsPermutation (part ∷ X) Y → IsPermutation A (rest ++ Y)
next_dealt A left rest part X Y e h k = IsPermutation-trans A (rest ++ part ∷ X) (rest ++ Y)
    (IsPermutation-trans A (part ∷ (rest ++ X)) (rest ++ part ∷ X)
    (subst (IsPermutation A) (ap (λ l. l ++ X) e) h) (behind part rest X))
    (IsPermutation-append_right rest (part ∷ X) Y k)

-- the last piece is moved
pub piece_dealt : (A : List Fragment) (pieces rest : List (Vec Fragment Global)) (piece : Vec Fragment Global)
    (X Y : List Fragment) → pieces ≡ rest ++ piece ∷ [] → IsPermutation A (items_of pieces ++ X)
    → IsPermutation (piece.items ++ X) Y → IsPermutation A (items_of rest ++ Y)
piece_dealt A pieces rest piece X Y e = last_dealt A (items_of pieces) (items_of rest) piece.items X Y
    (ap items_of e ∙ flat_map-append (λ (v : Vec Fragment Global). v.items) rest (piece ∷ [])
    ∙ ap (λ l. items_of rest ++ l) (append-nil piece.items))

-- a bucket has no more than all of them
module _ (f : Fragment → ℕ) where
  pub bucket_sum : (bs : List Bucket) (i : ℕ) (b : Bucket) → i < length bs → b ≡ get_or bs i b
      → sum_by f (parts_of b.items) ≤ sum_by f (parts_of (records_of bs))
  bucket_sum [] i b l e = absurd (omega arith)
  bucket_sum (c ∷ bs) zero b l e =
      let same = ap (λ (v : Bucket). sum_by f (parts_of v.items)) e in
      let parts = ap (sum_by f) (map-append part_of c.items (records_of bs)) in
      omega (arith, same, parts, sum_by-append f (parts_of c.items) (parts_of (records_of bs)))
  bucket_sum (c ∷ bs) (suc i) b l e =
      let rest = bucket_sum bs i b (omega arith) e in
      let parts = ap (sum_by f) (map-append part_of c.items (records_of bs)) in
      omega (arith, rest, parts, sum_by-append f (parts_of c.items) (parts_of (records_of bs)))
