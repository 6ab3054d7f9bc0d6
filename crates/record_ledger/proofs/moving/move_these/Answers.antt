-- Each turn moves the next fragment, where it belongs to these buckets.
use Rattle.std.proofs.Common.{◌≡◌, ◌+◌, ◌<◌, ◌≤◌, ◌∷◌, ◌++◌, List, length, drop, get_or, sym, ap, ◌∙◌, subst, arith}
use Rattle.std.proofs.Common.{IsPermutation, ◌⊎◌, inl, inr}
use Rattle.std.specs.List.{AllZip}
use Rattle.flow_key.specs.Key.{set_number}
use Rattle.std.proofs.Math.ListN.{drop_of_length-le}
use Rattle.std.proofs.lemmas.Option.{get_or_from_slice_get, slice_get_within}
use Rattle.flow_parts.specs.declared.fragment.Fragment.{Fragment}
use Rattle.flow_parts.proofs.Permuted.{AllZip-length}
use Rattle.record_ledger.specs.declared.place.Place.{Place}
use Rattle.record_ledger.specs.Lawful.{parts_of}
use Rattle.record_ledger.specs.Buckets.{Piece, records_of, IsPartPlaceOf, LieFrom, parts_to}
use Rattle.record_ledger.proofs.Dealt.{next_dealt}
use Rattle.record_ledger.proofs.Moved.{part_at, next_to, next_not_to}
use Rattle.record_ledger.proofs.moving.move_these.Goals as goal
use Rattle.record_ledger.proofs.moving.move_these.Goals.{then-first-bucket+then-bucket-first+in_ok-put_part, else-first-bucket}
use Rattle.record_ledger.proofs.moving.move_these.Goals.{else-first-bucket-via-then-first-bucket+else-bucket-first}
use Rattle.record_ledger.proofs.moving.move_these.Goals.{else-first-bucket-via-else-first-bucket}

abbrev nowhere : Place
nowhere = record { last = 0; leading = 0; bucket = 0; at = 0 }

pub offset_bounds-pieces-place : goal.offset_bounds-pieces-place
offset_bounds-pieces-place c =
    let pieces = c.args.pieces.now in
    let places = c.args.places.now in
    let i = c.loop-place.place-index in
    let x = part_at pieces c.requires.places.0 places i nowhere c.requires.places.1 (omega (arith, c.loop-place-test.true)) in
    let low = slice_get_within pieces (get_or places i nowhere).bucket x.1 x.3 in
    omega (arith, low)

pub bounds-pieces-place : goal.bounds-pieces-place
bounds-pieces-place c =
    let pieces = c.args.pieces.now in
    let places = c.args.places.now in
    let i = c.loop-place.place-index in
    let x = part_at pieces c.requires.places.0 places i nowhere c.requires.places.1 (omega (arith, c.loop-place-test.true)) in
    slice_get_within pieces (get_or places i nowhere).bucket x.1 x.3

pub index-part-requires : goal.index-part-requires
index-part-requires c =
    let pieces = c.args.pieces.now in
    let places = c.args.places.now in
    let i = c.loop-place.place-index in
    let piece : Piece = c.index-pieces-place.result in
    let at = (get_or places i nowhere).at in
    let x = part_at pieces c.requires.places.0 places i nowhere c.requires.places.1 (omega (arith, c.loop-place-test.true)) in
    let same : piece ≡ x.1 = c.index-pieces-place.is
    ∙ get_or_from_slice_get pieces (get_or places i nowhere).bucket x.1 piece x.3 in
    subst (λ n. at < n) (sym piece.ok.0)
    (subst (λ (p : Piece). at < length p.items) (sym same) (slice_get_within x.1.items at x.0 x.4))

pub loop-place-preserved : goal.loop-place-preserved
loop-place-preserved c =
    let pieces = c.args.pieces.now in
    let places = c.args.places.now in
    let i = c.loop-place.place-index in
    let count = c.args.count in
    let first = c.args.first in
    let many = length c.args.buckets.now in
    let piece : Piece = c.index-pieces-place.result in
    let part = c.index-part.result.now in
    let before = c.loop-place.buckets in
    let here : (parts : List Fragment) → AllZip (IsPartPlaceOf pieces) parts places
    → drop i parts ≡ part ∷ drop (i + 1) parts = λ parts z.
    (let x = part_at pieces parts places i nowhere z (omega (arith, c.loop-place-test.true)) in
    let same : piece ≡ x.1 = c.index-pieces-place.is
    ∙ get_or_from_slice_get pieces (get_or places i nowhere).bucket x.1 piece x.3 in
    let is : part ≡ x.0 = c.index-part.ensures
    ∙ ap (λ (p : Piece). get_or p.items (get_or places i nowhere).at part) same
    ∙ get_or_from_slice_get x.1.items (get_or places i nowhere).at x.0 part x.4 in
    x.2 ∙ ap (λ f. f ∷ drop (i + 1) parts) (sym is)) in
    let all : List Fragment → List Fragment = λ parts.
    parts_to count first many parts ++ parts_of (records_of c.args.buckets.now) in
    let number : c.set_of-bucket.result ≡ set_number part.key count = c.set_of-bucket.ensures.number in
    let skipped : (set_number part.key count < first) ⊎ (first + many ≤ set_number part.key count)
    → (parts : List Fragment) → AllZip (IsPartPlaceOf pieces) parts places
    → IsPermutation (all parts) (parts_to count first many (drop (i + 1) parts) ++ parts_of (records_of before)) = λ out parts z.
    subst (λ l. IsPermutation (all parts) (l ++ parts_of (records_of before)))
    (ap (parts_to count first many) (here parts z) ∙ next_not_to count first many part (drop (i + 1) parts) out)
    (c.loop-place.invariant.whole parts z) in
    elim c.if-first-bucket.branch [
      | then-first-bucket+then-bucket-first+in_ok-put_part w ↦ record {
        many = omega (arith, c.if-first-bucket.auto.buckets, c.loop-place.invariant.many);
        whole = λ parts z. subst (λ bs. IsPermutation (all parts)
            (parts_to count first many (drop (i + 1) parts) ++ parts_of (records_of bs))) (sym w.buckets-is)
            (next_dealt (all parts) (parts_to count first many (drop i parts))
            (parts_to count first many (drop (i + 1) parts)) part
            (parts_of (records_of before)) (parts_of (records_of w.put_part.new.buckets))
            (ap (parts_to count first many) (here parts z)
            ∙ next_to count first many part (drop (i + 1) parts) (omega (arith, number, w.if-first-bucket.true))
            (omega (arith, number, w.if-bucket-first.true, c.loop-place.invariant.many)))
            (c.loop-place.invariant.whole parts z) w.in_ok-put_part.ensures.whole);
        by_key = λ h. subst (LieFrom count first) (sym w.buckets-is)
            (w.in_ok-put_part.ensures.by_key count first (omega (arith, number, w.if-first-bucket.true))
            (c.loop-place.invariant.by_key h));
      }
      | else-first-bucket w ↦ (let out : (set_number part.key count < first) ⊎ (first + many ≤ set_number part.key count) =
          elim w.else-first-bucket.branch [
            | else-first-bucket-via-then-first-bucket+else-bucket-first v ↦
                inr (omega (arith, number, v.if-bucket-first.false, c.loop-place.invariant.many))
            | else-first-bucket-via-else-first-bucket v ↦ inl (omega (arith, number, v.if-first-bucket.false))
          ] in record {
            many = omega (arith, c.if-first-bucket.auto.buckets, c.loop-place.invariant.many);
            whole = λ parts z. subst (λ bs. IsPermutation (all parts)
                (parts_to count first many (drop (i + 1) parts) ++ parts_of (records_of bs))) (sym w.buckets-is)
                (skipped out parts z);
            by_key = λ h. subst (LieFrom count first) (sym w.buckets-is) (c.loop-place.invariant.by_key h);
          })
    ]

pub returns-clause-moved : goal.returns-clause-moved
returns-clause-moved c = record {
  whole = λ parts z.
      subst (λ l. IsPermutation (parts_to c.args.count c.args.first (length c.args.buckets.now) parts
      ++ parts_of (records_of c.args.buckets.now))
      (parts_to c.args.count c.args.first (length c.args.buckets.now) l ++ parts_of (records_of c.loop-place.buckets)))
      (drop_of_length-le parts (omega (
        arith,
        c.loop-place-test.false,
        AllZip-length (IsPartPlaceOf c.args.pieces.now) parts c.args.places.now z,
      )))
      (c.loop-place.invariant.whole parts z);
  by_key = c.loop-place.invariant.by_key;
}
