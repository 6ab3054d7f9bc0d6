-- The places of the records of buckets, behind those of the records of pieces.
use Rattle.std.proofs.Common.{◌≡◌, ◌≢◌, ℕ, suc, ◌+◌, ◌-◌, ◌<◌, ◌≤◌, Some, List, [], ◌∷◌, ◌++◌, length, refl, sym, ap}
use Rattle.std.proofs.Common.{◌∙◌, subst, arith, All}
use Rattle.std.specs.Prelude.{slice_get}
use Rattle.std.specs.List.{AllZip}
use Rattle.std.specs.Ordering.{nat_cmp, ordering_then}
use Rattle.std.specs.declared.cmp.Ordering.TheVariants.{Less}
use Rattle.std.proofs.lemmas.Cmp.{nat_cmp_total, tied_itself}
use Rattle.std.proofs.lemmas.List.Elements.{All-append, All-cons, All-nil, All-head, All-tail, All-weaker}
use Rattle.flow_parts.proofs.Permuted.{AllZip-append}
use Rattle.record_ledger.specs.Buckets.{Bucket, IsPlaceOf, bucket_places, item_at, leading_number, places_from}
use Rattle.record_ledger.specs.Buckets.{records_of, seat_order}
use Rattle.record_ledger.specs.Steps.{Rises}
use Rattle.record_ledger.specs.declared.place.Place.{Place}
use Rattle.record_ledger.specs.declared.record.FlowRecord.{FlowRecord}
use Rattle.record_ledger.specs.declared.store.Store.{Store}
use Rattle.record_ledger.proofs.Keyed.{rises_weaker}
use Rattle.record_ledger.proofs.Leads.{less_is}
use Rattle.record_ledger.proofs.Placed.{KeyAhead}
use Rattle.record_ledger.proofs.Settled.{rises_append}
use Rattle.record_ledger.proofs.Stored.{of_bucket}

abbrev Ahead : Place → Place → Type 0
Ahead p q = seat_order p q ≡ Less

-- a place of an earlier bucket is ahead
ahead_by_bucket : (p q : Place) → p.bucket < q.bucket → Ahead p q
ahead_by_bucket p q l = ap (λ o. ordering_then o (nat_cmp p.at q.at)) (less_is p.bucket q.bucket l)

-- and so is an earlier place of one bucket
ahead_by_at : (p q : Place) → p.bucket ≡ q.bucket → p.at < q.at → Ahead p q
ahead_by_at p q e l =
    ap (λ n. ordering_then (nat_cmp p.bucket n) (nat_cmp p.at q.at)) (sym e)
    ∙ ap (λ o. ordering_then o (nat_cmp p.at q.at)) (tied_itself nat_cmp_total p.bucket)
    ∙ less_is p.at q.at l

abbrev place_in : ℕ → ℕ → FlowRecord → Place
place_in number at r = record { last = r.part.last; leading = leading_number r.part.key; bucket = number; at = at }

abbrev FromAt : ℕ → ℕ → Place → Type 0
FromAt number at p = (p.bucket ≡ number) × (at ≤ p.at)

abbrev FromBucket : ℕ → Place → Type 0
FromBucket number p = number ≤ p.bucket

from_at : (number at : ℕ) (rs : List FlowRecord) → All (FromAt number at) (places_from number at rs)
from_at number at [] = All-nil (FromAt number at)
from_at number at (r ∷ rs) =
    All-cons (FromAt number at) (place_in number at r) (places_from number (suc at) rs) (refl, omega arith)
    (All-weaker (FromAt number (suc at)) (FromAt number at) (λ p h. (h.0, omega (arith, h.1)))
    (places_from number (suc at) rs) (from_at number (suc at) rs))

-- the places of a bucket rise
bucket_rises : (number at : ℕ) (rs : List FlowRecord) → Rises Ahead (places_from number at rs)
bucket_rises number at [] = tt
bucket_rises number at (r ∷ rs) = (
  All-weaker (FromAt number (suc at)) (Ahead (place_in number at r))
      (λ q h. ahead_by_at (place_in number at r) q (sym h.0) (omega (arith, h.1)))
      (places_from number (suc at) rs) (from_at number (suc at) rs),
  bucket_rises number (suc at) rs,
)

from_bucket : (number : ℕ) (bs : List Bucket) → All (FromBucket number) (bucket_places number bs)
from_bucket number [] = All-nil (FromBucket number)
from_bucket number (b ∷ bs) =
    All-append (FromBucket number) (places_from number 0 b.items) (bucket_places (suc number) bs)
    (All-weaker (FromAt number 0) (FromBucket number) (λ p h. omega (arith, h.0)) (places_from number 0 b.items)
    (from_at number 0 b.items))
    (All-weaker (FromBucket (suc number)) (FromBucket number) (λ p l. omega (arith, l)) (bucket_places (suc number) bs)
    (from_bucket (suc number) bs))

-- and those of all buckets
buckets_rise : (number : ℕ) (bs : List Bucket) → Rises Ahead (bucket_places number bs)
buckets_rise number [] = tt
buckets_rise number (b ∷ bs) = rises_append Ahead (places_from number 0 b.items) (bucket_places (suc number) bs)
    (bucket_rises number 0 b.items) (buckets_rise (suc number) bs)
    (All-weaker (FromAt number 0) (λ p. All (Ahead p) (bucket_places (suc number) bs))
    (λ p h. All-weaker (FromBucket (suc number)) (Ahead p) (λ q l. ahead_by_bucket p q (omega (arith, h.0, l)))
    (bucket_places (suc number) bs) (from_bucket (suc number) bs))
    (places_from number 0 b.items) (from_at number 0 b.items))

module _ (store : Store) where
  -- the records of a bucket from a place on have their places
  bucket_placed : (n : ℕ) (b : Bucket) → slice_get store.buckets.items n ≡ Some b → (number at : ℕ)
      → number ≡ length store.pieces.items + n → (rs : List FlowRecord)
      → ((k : ℕ) (r : FlowRecord) → slice_get rs k ≡ Some r → slice_get b.items (at + k) ≡ Some r)
      → AllZip (IsPlaceOf store) rs (places_from number at rs)
  bucket_placed n b e number at is [] there = tt
  bucket_placed n b e number at is (r ∷ rs) there = (
    record {
      here =
          let bucket : number - length store.pieces.items ≡ n = omega (arith, is) in
          let place : at + 0 ≡ at = omega arith in
          of_bucket store (place_in number at r) (omega (arith, is))
          ∙ ap (λ m. item_at (slice_get store.buckets.items m) at) bucket
          ∙ ap (λ o. item_at o at) e
          ∙ subst (λ i. slice_get b.items i ≡ Some r) place (there 0 r refl);
      last = refl;
      leading = refl;
    },
    bucket_placed n b e number (suc at) is rs (λ k s f.
        let place : at + suc k ≡ suc at + k = omega arith in
        subst (λ i. slice_get b.items i ≡ Some s) place (there (suc k) s f)),
  )

  -- the records of buckets have their places
  buckets_placed : (number n : ℕ) → number ≡ length store.pieces.items + n → (bs : List Bucket)
      → ((k : ℕ) (b : Bucket) → slice_get bs k ≡ Some b → slice_get store.buckets.items (n + k) ≡ Some b)
      → AllZip (IsPlaceOf store) (records_of bs) (bucket_places number bs)
  buckets_placed number n is [] there = tt
  buckets_placed number n is (b ∷ bs) there =
      let first : n + 0 ≡ n = omega arith in
      AllZip-append (IsPlaceOf store) b.items (places_from number 0 b.items) (records_of bs)
      (bucket_places (suc number) bs)
      (bucket_placed n b (subst (λ i. slice_get store.buckets.items i ≡ Some b) first (there 0 b refl)) number 0 is
      b.items (λ k r f.
      let same : 0 + k ≡ k = omega arith in
      subst (λ i. slice_get b.items i ≡ Some r) (sym same) f))
      (buckets_placed (suc number) (suc n) (omega (arith, is)) bs (λ k c f.
      let next : n + suc k ≡ suc n + k = omega arith in
      subst (λ i. slice_get store.buckets.items i ≡ Some c) next (there (suc k) c f)))

  abbrev pub Behind : List Place
  Behind = bucket_places (length store.pieces.items) store.buckets.items

  -- the records in pieces and buckets have their places
  pub all_placed : (first : List FlowRecord) (alone : List Place) → AllZip (IsPlaceOf store) first alone
      → AllZip (IsPlaceOf store) (first ++ records_of store.buckets.items) (alone ++ Behind)
  all_placed first alone z = AllZip-append (IsPlaceOf store) first alone (records_of store.buckets.items) Behind z
      (buckets_placed (length store.pieces.items) 0 (omega arith) store.buckets.items (λ k b e.
      let same : 0 + k ≡ k = omega arith in
      subst (λ i. slice_get store.buckets.items i ≡ Some b) (sym same) e))

  abbrev Unlike : FlowRecord → FlowRecord → Type 0
  Unlike r s = r.part.key ≢ s.part.key

  -- places of records of which no other has the key
  one_ahead : (r : FlowRecord) (p : Place) → IsPlaceOf store r p → (rs : List FlowRecord) (ps : List Place)
      → AllZip (IsPlaceOf store) rs ps → All (Unlike r) rs → All (KeyAhead store p) ps
  one_ahead r p h [] [] z u = All-nil (KeyAhead store p)
  one_ahead r p h [] (q ∷ ps) z u = absurd z
  one_ahead r p h (s ∷ rs) [] z u = absurd z
  one_ahead r p h (s ∷ rs) (q ∷ ps) z u = All-cons (KeyAhead store p) q ps
      (λ x y e f same.
      let one : Some r ≡ Some x = sym h.here ∙ e in
      let two : Some s ≡ Some y = sym z.0.here ∙ f in
      let is : r.part.key ≡ s.part.key = cc in
      absurd (All-head (Unlike r) s rs u is))
      (one_ahead r p h rs ps z.1 (All-tail (Unlike r) s rs u))

  unlike_ahead : (rs : List FlowRecord) (ps : List Place) → AllZip (IsPlaceOf store) rs ps → Rises Unlike rs
      → Rises (KeyAhead store) ps
  unlike_ahead [] [] z u = tt
  unlike_ahead [] (p ∷ ps) z u = absurd z
  unlike_ahead (r ∷ rs) [] z u = absurd z
  unlike_ahead (r ∷ rs) (p ∷ ps) z u = (one_ahead r p z.0 rs ps z.1 u.0, unlike_ahead rs ps z.1 u.1)

  -- of the places of pieces and buckets those of one key stand by where they are
  pub all_ahead : (first : List FlowRecord) (alone : List Place) → AllZip (IsPlaceOf store) first alone
      → Rises Unlike first → All (λ (p : Place). p.bucket < length store.pieces.items) alone
      → Rises (KeyAhead store) (alone ++ Behind)
  all_ahead first alone z u below =
      let number = length store.pieces.items in
      rises_append (KeyAhead store) alone Behind (unlike_ahead first alone z u)
      (rises_weaker Ahead (KeyAhead store) (λ p q h r s e f same. h) Behind (buckets_rise number store.buckets.items))
      (All-weaker (λ (p : Place). p.bucket < number) (λ p. All (KeyAhead store p) Behind)
      (λ p l. All-weaker (FromBucket number) (KeyAhead store p)
      (λ q m r s e f same. ahead_by_bucket p q (omega (arith, l, m))) Behind
      (from_bucket number store.buckets.items)) alone below)
