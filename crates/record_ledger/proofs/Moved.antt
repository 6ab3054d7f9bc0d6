-- Fragments that are moved to the buckets of their keys, of which some have a part.
use Rattle.std.proofs.Common.{◌≡◌, ℕ, ◌+◌, ◌<◌, ◌≤◌, Bool, true, false, cond, ◌&&◌, nat_le, nat_lt, ◌⊎◌, inl, inr}
use Rattle.std.proofs.Common.{List, [], ◌∷◌, ◌++◌, Option, Some, None, length, get_or, drop, refl, sym, ap, ◌∙◌, subst}
use Rattle.std.proofs.Common.{arith, length-append, suc, IsPermutation, Vec, Global}
use Rattle.std.proofs.Math.Nat.{mod-lt}
use Rattle.std.specs.Prelude.{slice_get}
use Rattle.std.specs.List.{AllZip}
use Rattle.std.proofs.lemmas.Bool.{and_parts, and_from, cases_lt, leb-true, le-leb, ltb-true, lt-ltb}
use Rattle.std.proofs.lemmas.Bool.Decides.{nat_tests}
use Rattle.std.proofs.lemmas.Grind.{flat_map-append}
use Rattle.std.proofs.lemmas.List.{map-append, drop_more}
use Rattle.std.proofs.lemmas.List.Elements.{filter-append}
use Rattle.std.proofs.lemmas.List.Sorted.{IsPermutation-trans, IsPermutation-append}
use Rattle.std.proofs.lemmas.List.Sorted.{IsPermutation-append_comm, IsPermutation-append_left, IsPermutation-refl}
use Rattle.flow_key.specs.Key.{set_number}
use Rattle.flow_parts.specs.declared.fragment.Fragment.{Fragment}
use Rattle.flow_parts.proofs.Permuted.{AllZip-length, AllZip-at}
use Rattle.record_ledger.specs.declared.place.Place.{Place}
use Rattle.record_ledger.specs.Lawful.{parts_of}
use Rattle.record_ledger.specs.Buckets.{AreMovedTo, Bucket, Piece, records_of, LieFrom, part_of_piece, parts_to}
use Rattle.record_ledger.specs.Buckets.{IsPartPlaceOf}
use Rattle.record_ledger.proofs.Classed.{kept_all, kept_by_either}
use Rattle.record_ledger.proofs.Dealt.{elements, inner_changed, last_dealt}
use Rattle.record_ledger.proofs.Filtered.{kept_none}
use Rattle.record_ledger.proofs.Gathered.{not_true}
use Rattle.record_ledger.proofs.Keyed.{part_of}

-- the piece of a place
in_piece : (o : Option Piece) (at : ℕ) (f : Fragment) → part_of_piece o at ≡ Some f
    → (p : Piece) × (o ≡ Some p) × (slice_get p.items at ≡ Some f)
in_piece None at f e = absurd (cc)
in_piece (Some p) at f e = (p, refl, e)

-- the elements of two lists at one place
zip_at : {X Y : Type 0} (R : X → Y → Type 0) (xs : List X) (ys : List Y) (i : ℕ) (y : Y) → AllZip R xs ys
    → i < length ys → (x : X) × (drop i xs ≡ x ∷ drop (i + 1) xs) × R x (get_or ys i y)
zip_at R [] ys i y z l = absurd (omega (arith, l, AllZip-length R [] ys z))
zip_at R (w ∷ ws) ys i y z l =
    let low : i < length (w ∷ ws) = omega (arith, l, AllZip-length R (w ∷ ws) ys z) in
    (get_or (w ∷ ws) i w, drop_more (w ∷ ws) i w low, AllZip-at R (w ∷ ws) ys i w y z low)

-- the fragment at the next place
pub part_at : (pieces : List Piece) (parts : List Fragment) (places : List Place) (i : ℕ) (d : Place)
    → AllZip (IsPartPlaceOf pieces) parts places → i < length places
    → (f : Fragment) × (p : Piece) × (drop i parts ≡ f ∷ drop (i + 1) parts)
    × (slice_get pieces (get_or places i d).bucket ≡ Some p) × (slice_get p.items (get_or places i d).at ≡ Some f)
part_at pieces parts places i d h l =
    let x = zip_at (IsPartPlaceOf pieces) parts places i d h l in
    let k = in_piece (slice_get pieces (get_or places i d).bucket) (get_or places i d).at x.0 x.2.here in
    (x.0, k.0, x.1, k.1, k.2)

-- no element has one beside it where there is none
pub zip_none : {X Y : Type 0} (R : X → Y → Type 0) (xs : List X) → AllZip R xs [] → xs ≡ []
zip_none R [] h = refl
zip_none R (x ∷ xs) h = absurd h

-- two lists of which the second is parted
zip_parted : {X Y : Type 0} (R : X → Y → Type 0) (xs : List X) (ys zs : List Y) → AllZip R xs (ys ++ zs)
    → (us vs : List X) × (xs ≡ us ++ vs) × AllZip R us ys × AllZip R vs zs
zip_parted R xs [] zs h = ([], xs, refl, tt, h)
zip_parted R [] (y ∷ ys) zs h = absurd h
zip_parted R (x ∷ xs) (y ∷ ys) zs h =
    let k = zip_parted R xs ys zs h.1 in
    (x ∷ k.0, k.1, ap (λ l. x ∷ l) k.2, (h.0, k.3), k.4)

-- two lists of which the second is the elements of some lists, from one on
pub zip_list : {X Y : Type 0} (R : X → Y → Type 0) (xs : List X) (lists : List (Vec Y Global)) (i : ℕ) (list : Vec Y Global)
    → AllZip R xs (elements (drop i lists)) → i < length lists → list ≡ get_or lists i list
    → (us vs : List X) × (xs ≡ us ++ vs) × AllZip R us list.items × AllZip R vs (elements (drop (i + 1) lists))
zip_list R xs lists i list h l is = zip_parted R xs list.items (elements (drop (i + 1) lists))
    (subst (λ ls. AllZip R xs (elements ls))
    (drop_more lists i list l ∙ ap (λ v. v ∷ drop (i + 1) lists) (sym is)) h)

-- the fragments of buckets that were parted
parts_both : (low high : List Bucket)
    → parts_of (records_of (low ++ high)) ≡ parts_of (records_of low) ++ parts_of (records_of high)
parts_both low high = ap parts_of (flat_map-append (λ (b : Bucket). b.items) low high)
    ∙ map-append part_of (records_of low) (records_of high)

-- buckets of which each half lies as it should
pub lie_both : (n i : ℕ) (low high : List Bucket) → LieFrom n i low → LieFrom n (i + length low) high
    → LieFrom n i (low ++ high)
lie_both n i [] high h k = let e : i + 0 ≡ i = omega arith in subst (λ m. LieFrom n m high) e k
lie_both n i (b ∷ low) high h k =
    let e : i + length (b ∷ low) ≡ suc i + length low = omega arith in
    (h.0, lie_both n (suc i) low high h.1 (subst (λ m. LieFrom n m high) e k))

pub lie_halves : (n i : ℕ) (low high : List Bucket) → LieFrom n i (low ++ high)
    → LieFrom n i low × LieFrom n (i + length low) high
lie_halves n i [] high h = let e : i ≡ i + 0 = omega arith in (tt, subst (λ m. LieFrom n m high) e h)
lie_halves n i (b ∷ low) high h =
    let e : suc i + length low ≡ i + length (b ∷ low) = omega arith in
    let k = lie_halves n (suc i) low high h.1 in
    ((h.0, k.0), subst (λ m. LieFrom n m high) e k.1)

-- a number from one on is among the first ones or among those behind them
shared_out : (first low high n : ℕ) → cond (nat_le first n && nat_lt n (first + (low + high))) 1 0
    ≡ cond (nat_le first n && nat_lt n (first + low)) 1 0
    + cond (nat_le (first + low) n && nat_lt n (first + low + high)) 1 0
shared_out first low high n = grind (arith, nat_tests)

module _ (count : ℕ) where
  -- the bucket of a fragment's key is among so many from one on
  abbrev belongs : ℕ → ℕ → Fragment → Bool
  belongs first many f = nat_le first (set_number f.key count) && nat_lt (set_number f.key count) (first + many)

  -- it is, by two bounds
  belongs_from : (first many : ℕ) (f : Fragment) → first ≤ set_number f.key count
      → set_number f.key count < first + many → belongs first many f ≡ true
  belongs_from first many f low high =
      and_from (nat_le first (set_number f.key count)) (nat_lt (set_number f.key count) (first + many))
      (le-leb first (set_number f.key count) low) (lt-ltb (set_number f.key count) (first + many) high)

  -- it is not, by one
  belongs_not : (first many : ℕ) (f : Fragment)
      → (set_number f.key count < first) ⊎ (first + many ≤ set_number f.key count) → belongs first many f ≡ false
  belongs_not first many f out = not_true (belongs first many f) (λ is.
      let both = and_parts (nat_le first (set_number f.key count))
      (nat_lt (set_number f.key count) (first + many)) is in
      let low = leb-true first (set_number f.key count) both.0 in
      let high = ltb-true (set_number f.key count) (first + many) both.1 in
      out_of (set_number f.key count) low high out)
    where
      out_of : (n : ℕ) → first ≤ n → n < first + many → (n < first) ⊎ (first + many ≤ n) → ⊥
      out_of n low high (inl l) = omega arith
      out_of n low high (inr l) = omega arith

  -- the next fragment belongs to the buckets
  pub next_to : (first many : ℕ) (f : Fragment) (rest : List Fragment) → first ≤ set_number f.key count
      → set_number f.key count < first + many
      → parts_to count first many (f ∷ rest) ≡ f ∷ parts_to count first many rest
  next_to first many f rest low high =
      ap (λ b. cond b (f ∷ parts_to count first many rest) (parts_to count first many rest))
      (belongs_from first many f low high)

  -- it belongs to others
  pub next_not_to : (first many : ℕ) (f : Fragment) (rest : List Fragment)
      → (set_number f.key count < first) ⊎ (first + many ≤ set_number f.key count)
      → parts_to count first many (f ∷ rest) ≡ parts_to count first many rest
  next_not_to first many f rest out =
      ap (λ b. cond b (f ∷ parts_to count first many rest) (parts_to count first many rest))
      (belongs_not first many f out)

  -- the fragments of all buckets
  pub to_all : 1 ≤ count → (parts : List Fragment) → parts_to count 0 count parts ≡ parts
  to_all some parts = kept_all (belongs 0 count) parts
      (λ f. belongs_from 0 count f (omega arith) (let l : set_number f.key count < count = mod-lt _ some in omega (arith, l)))

  -- the fragments of some buckets and of those behind them
  to_both : (first low high : ℕ) (parts : List Fragment)
      → IsPermutation (parts_to count first (low + high) parts)
      (parts_to count first low parts ++ parts_to count (first + low) high parts)
  to_both first low high parts = kept_by_either (belongs first low) (belongs (first + low) high)
      (belongs first (low + high)) parts (λ f. shared_out first low high (set_number f.key count))

  -- the fragments of one more list
  pub list_moved : (first many : ℕ) (A left here rest X Y : List Fragment) → left ≡ here ++ rest
      → IsPermutation A (parts_to count first many left ++ X) → IsPermutation (parts_to count first many here ++ X) Y
      → IsPermutation A (parts_to count first many rest ++ Y)
  list_moved first many A left here rest X Y e h k =
      let one = parts_to count first many here in
      let other = parts_to count first many rest in
      last_dealt A (other ++ one) other one X Y refl
      (IsPermutation-trans A ((one ++ other) ++ X) ((other ++ one) ++ X)
      (subst (λ l. IsPermutation A (l ++ X))
      (ap (parts_to count first many) e ∙ filter-append (belongs first many) here rest) h)
      (IsPermutation-append_left X (one ++ other) (other ++ one) (IsPermutation-append_comm one other))) k

  -- the fragments of both halves are moved
  pub both_moved : (first : ℕ) (parts : List Fragment) (low high low' high' : List Bucket)
      → IsPermutation (parts_to count first (length low) parts ++ parts_of (records_of low)) (parts_of (records_of low'))
      → IsPermutation (parts_to count (first + length low) (length high) parts ++ parts_of (records_of high))
      (parts_of (records_of high'))
      → IsPermutation (parts_to count first (length (low ++ high)) parts ++ parts_of (records_of (low ++ high)))
      (parts_of (records_of (low' ++ high')))
  both_moved first parts low high low' high' h k =
      let one = parts_to count first (length low) parts in
      let other = parts_to count (first + length low) (length high) parts in
      let L = parts_of (records_of low) in
      let H = parts_of (records_of high) in
      let L' = parts_of (records_of low') in
      let H' = parts_of (records_of high') in
      subst (λ n. IsPermutation (parts_to count first n parts ++ parts_of (records_of (low ++ high)))
      (parts_of (records_of (low' ++ high')))) (sym (length-append low high))
      (subst (λ l. IsPermutation (parts_to count first (length low + length high) parts ++ l)
      (parts_of (records_of (low' ++ high')))) (sym (parts_both low high))
      (subst (IsPermutation (parts_to count first (length low + length high) parts ++ (L ++ H)))
      (sym (parts_both low' high'))
      (IsPermutation-trans (parts_to count first (length low + length high) parts ++ (L ++ H))
      ((one ++ other) ++ (L ++ H)) (L' ++ H')
      (IsPermutation-append_left (L ++ H) (parts_to count first (length low + length high) parts) (one ++ other)
      (to_both first (length low) (length high) parts))
      (IsPermutation-trans ((one ++ other) ++ (L ++ H)) ((one ++ L) ++ (other ++ H)) (L' ++ H')
      (inner_changed one other L H) (IsPermutation-append (one ++ L) L' (other ++ H) H' h k)))))

-- no fragment belongs to none of the buckets
none_to : (count first : ℕ) (parts : List Fragment) → parts_to count first 0 parts ≡ []
none_to count first parts = kept_none (λ (f : Fragment). nat_le first (set_number f.key count)
    && nat_lt (set_number f.key count) (first + 0)) parts
    (λ k d l. belongs_not count first 0 (get_or parts k d) (outside (get_or parts k d)))
  where
    outside : (f : Fragment) → (set_number f.key count < first) ⊎ (first + 0 ≤ set_number f.key count)
    outside f = elim (cases_lt (set_number f.key count) first) [
      | inl l ↦ inl l
      | inr l ↦ inr (omega (arith, l))
    ]

-- none is moved to no bucket
pub none_moved : (pieces : List Piece) (places : List Place) (count first : ℕ) → AreMovedTo pieces places count first [] []
none_moved pieces places count first = record {
  whole = λ parts z. subst (λ l. IsPermutation (l ++ []) []) (sym (none_to count first parts)) (IsPermutation-refl []);
  by_key = λ h. h;
}

-- the fragments of both halves are moved, each half by itself
pub halves_moved : (pieces : List Piece) (places : List Place) (count first : ℕ) (low high low' high' : List Bucket)
    → length low' ≡ length low → AreMovedTo pieces places count first low low'
    → AreMovedTo pieces places count (first + length low) high high'
    → AreMovedTo pieces places count first (low ++ high) (low' ++ high')
halves_moved pieces places count first low high low' high' many h k = record {
  whole = λ parts z. both_moved count first parts low high low' high' (h.whole parts z) (k.whole parts z);
  by_key = λ x.
      let halves = lie_halves count first low high x in
      lie_both count first low' high' (h.by_key halves.0)
      (subst (λ n. LieFrom count (first + n) high') (sym many) (k.by_key halves.1));
}

-- all fragments are moved where the buckets are all there are
pub all_moved : (pieces : List Piece) (places : List Place) (old new : List Bucket) → 1 ≤ length old
    → AreMovedTo pieces places (length old) 0 old new → (parts : List Fragment)
    → AllZip (IsPartPlaceOf pieces) parts places
    → IsPermutation (parts ++ parts_of (records_of old)) (parts_of (records_of new))
all_moved pieces places old new some moved parts z =
    subst (λ l. IsPermutation (l ++ parts_of (records_of old)) (parts_of (records_of new)))
    (to_all (length old) some parts) (moved.whole parts z)
