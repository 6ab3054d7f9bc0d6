-- Each turn adds the place of one more record.
use Rattle.std.proofs.Common.{◌≡◌, ◌+◌, ◌++◌, ◌<◌, length, get_or, refl, sym, ap, ◌∙◌, subst, arith, append-nil, IsPermutation}
use Rattle.std.proofs.lemmas.List.{length-set, take_all}
use Rattle.std.proofs.lemmas.List.Sorted.{IsPermutation-refl}
use Rattle.std.proofs.lemmas.Option.{get_or_from_slice_get}
use Rattle.record_ledger.specs.Buckets.{Bucket, places_from, places_of}
use Rattle.record_ledger.proofs.Shared.{place_added, shared_pushed}
use Rattle.record_ledger.proofs.placing.add_places.Goals as goal

pub loop-at-init : goal.loop-at-init
loop-at-init c =
    let store = c.args.store.now in
    let B : Bucket = c.index.result.now in
    record {
      end = λ b e. c.len-at-end.ensures ∙ B.ok.0
          ∙ ap (λ (v : Bucket). length v.items)
          (c.index.ensures ∙ get_or_from_slice_get store.buckets.items c.args.bucket b B e);
      number = ap (λ n. n + c.args.bucket) (c.len.ensures ∙ store.pieces.ok.0);
      many = refl;
      places = λ b e. subst (λ l. IsPermutation l (places_of c.args.order.now)) (sym (append-nil (places_of c.args.order.now)))
          (IsPermutation-refl (places_of c.args.order.now));
      shared = λ h. h;
    }

pub loop-at-preserved : goal.loop-at-preserved
loop-at-preserved c =
    let store = c.args.store.now in
    let B : Bucket = c.index-in-loop-at.result.now in
    let at = c.loop-at.at in
    let order = c.loop-at.order in
    let j = c.number.result in
    let list = c.push.new.self in
    let low : j < length order = omega (arith, c.number.ensures.within, c.loop-at.invariant.many, c.requires.many) in
    record {
      end = c.loop-at.invariant.end;
      number = c.loop-at.invariant.number;
      many = length-set order j list ∙ c.loop-at.invariant.many;
      places = λ b e.
          let same : B ≡ b = c.index-in-loop-at.ensures
          ∙ get_or_from_slice_get store.buckets.items c.args.bucket b B e in
          let more : at < length b.items =
          (let end = c.loop-at.invariant.end b e in omega (arith, c.loop-at-test.true, end)) in
          place_added (c.len.result + c.args.bucket) at b.items c.index-in-loop-at-2.result.now _ (places_of c.args.order.now)
          order j list c.index-order-number.result more
          (subst (λ (v : Bucket). c.index-in-loop-at-2.result.now
          ≡ get_or v.items at c.index-in-loop-at-2.result.now) same c.index-in-loop-at-2.ensures)
          refl c.leading_number.ensures refl refl low c.in_ok-push.ensures.items
          (c.loop-at.invariant.places b e);
      shared = λ h. shared_pushed c.args.shares.now order j list _ c.index-order-number.result low
          c.in_ok-push.ensures.items c.number.ensures.number (c.loop-at.invariant.shared h);
    }

pub returns-clause-places : goal.returns-clause-places
returns-clause-places c = λ b e.
    subst (λ n. IsPermutation (places_of c.args.order.now ++ places_from n 0 b.items) (places_of c.loop-at.order))
    c.loop-at.invariant.number
    (subst (λ l. IsPermutation (places_of c.args.order.now ++ places_from (c.len.result + c.args.bucket) 0 l)
    (places_of c.loop-at.order))
    (take_all c.loop-at.at b.items (let end = c.loop-at.invariant.end b e in omega (arith, c.loop-at-test.false, end)))
    (c.loop-at.invariant.places b e))
