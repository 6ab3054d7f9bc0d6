-- What is found at a place of a store: in a piece, or in a bucket behind the pieces.
use Rattle.std.proofs.Common.{◌≡◌, ℕ, ◌+◌, ◌-◌, ◌<◌, ◌≤◌, ◌^◌, Bool, true, false, Option, Some, None, List, length, cond}
use Rattle.std.proofs.Common.{get_or, refl, sym, ap, ◌∙◌, subst, arith, option_map, option_and_then}
use Rattle.std.specs.Prelude.{slice_get, nat_lt}
use Rattle.std.specs.Option.{option_cmp}
use Rattle.std.proofs.lemmas.Bool.{lt-ltb, le-ltb, ltb-true, ltb-false}
use Rattle.std.proofs.Math.Dec.{ltb}
use Rattle.std.proofs.lemmas.Option.{slice_get_read, slice_get_within, get_or_from_slice_get}
use native.Mathlib.Decide.{dec_lt}
use Rattle.packet_accept.specs.Ending.{is_tcp_end}
use Rattle.flow_key.specs.Key.{key_order}
use Rattle.flow_parts.specs.declared.fragment.Fragment.{Fragment}
use Rattle.flow_parts.specs.declared.timeouts.Timeouts.{Timeouts}
use Rattle.record_ledger.specs.declared.record.FlowRecord.{FlowRecord}
use Rattle.record_ledger.specs.declared.place.Place.{Place}
use Rattle.record_ledger.specs.declared.store.Store.{Store}
use Rattle.record_ledger.specs.Lawful.{reason_of}
use Rattle.record_ledger.specs.Buckets.{Bucket, Piece, item_at, part_of_piece, part_in, alone_record}
use Rattle.record_ledger.specs.RecordWith.{record_where}
use Rattle.record_ledger.specs.Buckets.{record_at, IsPlace}

-- the record has this fragment and this reason
pub record Has (part : Fragment) (reason : ℕ) (r : FlowRecord) : Type 0 where
  pub its_part : r.part ≡ part
  pub its_reason : r.reason ≡ reason

where_fits : (reason : ℕ) (d : Dec (reason < 2 ^ 8)) (part : Fragment) → reason < 2 ^ 8
    → (r : FlowRecord) × (record_where reason d part ≡ Some r) × Has part reason r
unfolding record_where
where_fits reason (yes fits) part l =
    (record { part = part; reason = reason; sized = fits }, refl, record { its_part = refl; its_reason = refl })
where_fits reason (no wide) part l = absurd (wide l)

few : (closed idle : Bool) → cond closed 3 (cond idle 1 4) < 2 ^ 8
few true idle = omega arith
few false true = omega arith
few false false = omega arith

-- a fragment alone is a record
pub alone_is : (limits : Timeouts) (clock : ℕ) (part : Fragment)
    → (r : FlowRecord) × (alone_record limits clock part ≡ Some r) × Has part (reason_of limits clock part None) r
alone_is limits clock part =
    where_fits (reason_of limits clock part None) (dec_lt (reason_of limits clock part None) (2 ^ 8)) part
    (few (is_tcp_end part.key.protocol part.flags) (nat_lt (part.last + limits.idle) clock))

abbrev by_test : Store → Place → Bool → Option FlowRecord
by_test store place test = cond test
    (option_and_then (alone_record store.timeouts store.clock) (part_in store.pieces.items place))
    (item_at (slice_get store.buckets.items (place.bucket - length store.pieces.items)) place.at)

-- a place whose number is below that of the first bucket is of a piece
pub of_piece : (store : Store) (place : Place) → place.bucket < length store.pieces.items
    → record_at store place ≡ option_and_then (alone_record store.timeouts store.clock) (part_in store.pieces.items place)
of_piece store place l = ap (by_test store place) (lt-ltb place.bucket (length store.pieces.items) l)

-- and any other of a bucket
pub of_bucket : (store : Store) (place : Place) → length store.pieces.items ≤ place.bucket
    → record_at store place
    ≡ item_at (slice_get store.buckets.items (place.bucket - length store.pieces.items)) place.at
of_bucket store place l = ap (by_test store place) (le-ltb place.bucket (length store.pieces.items) l)

-- the record of a fragment at a place of a piece
pub part_found : (store : Store) (place : Place) (part : Fragment) → place.bucket < length store.pieces.items
    → part_in store.pieces.items place ≡ Some part
    → (r : FlowRecord) × (record_at store place ≡ Some r) × Has part (reason_of store.timeouts store.clock part None) r
part_found store place part l e =
    let a = alone_is store.timeouts store.clock part in
    (a.0, of_piece store place l ∙ ap (option_and_then (alone_record store.timeouts store.clock)) e ∙ a.1, a.2)

-- a bucket and a place in it
pub in_bucket : (o : Option Bucket) (at : ℕ) (r : FlowRecord) → item_at o at ≡ Some r
    → (b : Bucket) × (o ≡ Some b) × (slice_get b.items at ≡ Some r)
in_bucket None at r e = absurd (cc)
in_bucket (Some b) at r e = (b, refl, e)

-- a piece and a place in it
in_piece : (limits : Timeouts) (clock : ℕ) (o : Option Piece) (at : ℕ) (r : FlowRecord)
    → option_and_then (alone_record limits clock) (part_of_piece o at) ≡ Some r
    → (p : Piece) × (f : Fragment) × (o ≡ Some p) × (slice_get p.items at ≡ Some f)
    × Has f (reason_of limits clock f None) r
in_piece limits clock None at r e = absurd (cc)
in_piece limits clock (Some p) at r e = look (slice_get p.items at) refl e
  where
    look : (o : Option Fragment) → slice_get p.items at ≡ o → option_and_then (alone_record limits clock) o ≡ Some r
        → (q : Piece) × (f : Fragment) × (Some p ≡ Some q) × (slice_get q.items at ≡ Some f)
        × Has f (reason_of limits clock f None) r
    look None is e = absurd (cc)
    look (Some f) is e =
        let a = alone_is limits clock f in
        let same : a.0 ≡ r = (let two : Some a.0 ≡ Some r = sym a.1 ∙ e in cc) in
        (p, f, refl, is, subst (Has f (reason_of limits clock f None)) same a.2)

-- what is found in the pieces at the place of a record
pub found_in_piece : (store : Store) (place : Place) (r : FlowRecord) → place.bucket < length store.pieces.items
    → record_at store place ≡ Some r
    → (p : Piece) × (f : Fragment) × (slice_get store.pieces.items place.bucket ≡ Some p)
    × (slice_get p.items place.at ≡ Some f) × Has f (reason_of store.timeouts store.clock f None) r
found_in_piece store place r l e = in_piece store.timeouts store.clock (slice_get store.pieces.items place.bucket)
    place.at r (sym (of_piece store place l) ∙ e)

-- what is found in the buckets
pub found_in_bucket : (store : Store) (place : Place) (r : FlowRecord) → length store.pieces.items ≤ place.bucket
    → record_at store place ≡ Some r
    → (b : Bucket) × (slice_get store.buckets.items (place.bucket - length store.pieces.items) ≡ Some b)
    × (slice_get b.items place.at ≡ Some r)
found_in_bucket store place r l e =
    in_bucket (slice_get store.buckets.items (place.bucket - length store.pieces.items)) place.at r
    (sym (of_bucket store place l) ∙ e)

-- records stand by their keys as the keys themselves do
pub by_keys : (p q : Option FlowRecord)
    → option_cmp key_order (option_map (λ (r : FlowRecord). r.part.key) p) (option_map (λ (r : FlowRecord). r.part.key) q)
    ≡ option_cmp (λ (r s : FlowRecord). key_order r.part.key s.part.key) p q
by_keys None None = refl
by_keys None (Some s) = refl
by_keys (Some r) None = refl
by_keys (Some r) (Some s) = refl

-- an element that was looked up
pub there : {X : Type 0} (ys xs : List X) (i : ℕ) (x : X) → ys ≡ xs → true ≡ ltb i (length ys) → x ≡ get_or ys i x
    → slice_get xs i ≡ Some x
there ys xs i x e l is = subst (λ zs. slice_get zs i ≡ Some x) e
    (slice_get_read ys (length ys) i x refl (ltb-true i (length ys) (sym l)) is)

-- an element that isn't there
pub past : {X : Type 0} (ys xs : List X) (i : ℕ) → ys ≡ xs → false ≡ ltb i (length ys) → length xs ≤ i
past ys xs i e l = subst (λ zs. length zs ≤ i) e (ltb-false i (length ys) (sym l))

-- keys that were looked up
pub key_in_piece : (store : Store) (place : Place) (p : Piece) (f : Fragment)
    → slice_get store.pieces.items place.bucket ≡ Some p → slice_get p.items place.at ≡ Some f
    → Some f.key ≡ option_map (λ (r : FlowRecord). r.part.key) (record_at store place)
key_in_piece store place p f e h =
    let r = part_found store place f (slice_get_within store.pieces.items place.bucket p e)
    (ap (λ o. part_of_piece o place.at) e ∙ h) in
    sym (ap (option_map (λ (r : FlowRecord). r.part.key)) r.1 ∙ ap (λ (f : Fragment). Some f.key) r.2.its_part)

pub key_in_bucket : (store : Store) (place : Place) (n : ℕ) (b : Bucket) (r : FlowRecord) → n ≡ length store.pieces.items
    → length store.pieces.items ≤ place.bucket → slice_get store.buckets.items (place.bucket - n) ≡ Some b
    → slice_get b.items place.at ≡ Some r
    → Some r.part.key ≡ option_map (λ (r : FlowRecord). r.part.key) (record_at store place)
key_in_bucket store place n b r many l e h =
    sym (ap (option_map (λ (r : FlowRecord). r.part.key))
    (of_bucket store place l
    ∙ ap (λ n. item_at (slice_get store.buckets.items (place.bucket - n)) place.at) (sym many)
    ∙ ap (λ o. item_at o place.at) e ∙ h))

module _ (store : Store) (place : Place) (w : IsPlace store place) where
  -- what is at the place of a record in a piece
  pub part_there : (p : Piece) → slice_get store.pieces.items place.bucket ≡ Some p
      → (place.at < length p.items) × ((f : Fragment) → f ≡ get_or p.items place.at f
      → option_map (λ (r : FlowRecord). r.part) (record_at store place) ≡ Some f)
  part_there p e =
      let v = found_in_piece store place w.0 (slice_get_within store.pieces.items place.bucket p e) w.1 in
      let same : v.0 ≡ p = (let two : Some v.0 ≡ Some p = sym v.2 ∙ e in cc) in
      let at : slice_get p.items place.at ≡ Some v.1 =
      subst (λ (p : Piece). slice_get p.items place.at ≡ Some v.1) same v.3 in (
        slice_get_within p.items place.at v.1 at,
        λ f is. ap (option_map (λ (r : FlowRecord). r.part)) w.1
            ∙ ap Some (v.4.its_part ∙ sym (is ∙ get_or_from_slice_get p.items place.at v.1 f at)),
      )

  -- and in a bucket
  pub record_there : (n : ℕ) → n ≡ length store.pieces.items → length store.pieces.items ≤ place.bucket
      → (place.bucket - n < length store.buckets.items)
      × ((b : Bucket) → b ≡ get_or store.buckets.items (place.bucket - n) b
      → (place.at < length b.items) × ((s : FlowRecord) → s ≡ get_or b.items place.at s
      → record_at store place ≡ Some s))
  record_there n many l =
      let v = found_in_bucket store place w.0 l w.1 in
      let here : slice_get store.buckets.items (place.bucket - n) ≡ Some v.0 =
      ap (λ n. slice_get store.buckets.items (place.bucket - n)) many ∙ v.1 in (
        slice_get_within store.buckets.items (place.bucket - n) v.0 here,
        λ b is.
            let same : v.0 ≡ b =
            sym (is ∙ get_or_from_slice_get store.buckets.items (place.bucket - n) v.0 b here) in
            let at : slice_get b.items place.at ≡ Some w.0 =
            subst (λ (b : Bucket). slice_get b.items place.at ≡ Some w.0) same v.2 in (
              slice_get_within b.items place.at w.0 at,
              λ s here. w.1 ∙ ap Some (sym (here ∙ get_or_from_slice_get b.items place.at w.0 s at)),
            ),
      )

  -- the reason of a record in a piece
  pub reason_there : (part : Fragment) → place.bucket < length store.pieces.items
      → option_map (λ (r : FlowRecord). r.part) (record_at store place) ≡ Some part
      → option_map (λ (r : FlowRecord). r.reason) (record_at store place)
      ≡ Some (reason_of store.timeouts store.clock part None)
  reason_there part l e =
      let v = found_in_piece store place w.0 l w.1 in
      let same : v.1 ≡ part = sym v.4.its_part
      ∙ (let two : Some w.0.part ≡ Some part = sym (ap (option_map (λ (r : FlowRecord). r.part)) w.1) ∙ e in cc) in
      ap (option_map (λ (r : FlowRecord). r.reason)) w.1
      ∙ ap Some (v.4.its_reason ∙ ap (λ f. reason_of store.timeouts store.clock f None) same)
