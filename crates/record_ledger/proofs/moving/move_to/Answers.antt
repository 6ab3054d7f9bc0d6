-- Each turn moves the fragments of the next list.
use Rattle.std.proofs.Common.{◌≡◌, ◌++◌, [], length, drop, sym, ap, ◌∙◌, subst, arith, IsPermutation}
use Rattle.std.proofs.Math.ListN.{drop_of_length-le}
use Rattle.std.specs.List.{AllZip}
use Rattle.record_ledger.specs.Lawful.{parts_of}
use Rattle.record_ledger.specs.Buckets.{records_of, IsPartPlaceOf, parts_to, places_of}
use Rattle.record_ledger.proofs.Moved.{zip_list, zip_none, list_moved}
use Rattle.record_ledger.proofs.moving.move_to.Goals as goal

pub move_these-requires-clause-places : goal.move_these-requires-clause-places
move_these-requires-clause-places c =
    let pieces = c.args.pieces.now in
    let k = c.loop-places.invariant.whole c.requires.places.0 c.requires.places.1 in
    let x = zip_list (IsPartPlaceOf pieces) k.0 c.args.moved.now c.loop-places.places-index c.places-item.result k.1
    (omega (arith, c.loop-places-test.true)) c.places-item.is in
    (x.0, subst (AllZip (IsPartPlaceOf pieces) x.0) (sym c.deref.ensures.value) x.3)

pub loop-places-preserved : goal.loop-places-preserved
loop-places-preserved c =
    let pieces = c.args.pieces.now in
    let moved = c.args.moved.now in
    let i = c.loop-places.places-index in
    let many = length c.args.buckets.now in
    let same : length c.loop-places.buckets ≡ many = c.loop-places.invariant.many in
    record {
      many = c.in_ok-move_these.ensures.many ∙ same;
      whole = λ parts z.
          let k = c.loop-places.invariant.whole parts z in
          let x = zip_list (IsPartPlaceOf pieces) k.0 moved i c.places-item.result k.1
          (omega (arith, c.loop-places-test.true)) c.places-item.is in (
            x.1,
            x.4,
            list_moved c.args.count c.args.first many
                (parts_to c.args.count c.args.first many parts ++ parts_of (records_of c.args.buckets.now)) k.0 x.0 x.1
                (parts_of (records_of c.loop-places.buckets)) (parts_of (records_of c.move_these.new.buckets)) x.2 k.2
                (subst (λ n. IsPermutation
                (parts_to c.args.count c.args.first n x.0 ++ parts_of (records_of c.loop-places.buckets))
                (parts_of (records_of c.move_these.new.buckets))) same
                (c.in_ok-move_these.ensures.moved.whole x.0
                (subst (AllZip (IsPartPlaceOf pieces) x.0) (sym c.deref.ensures.value) x.3))),
          );
      by_key = λ h. c.in_ok-move_these.ensures.moved.by_key (c.loop-places.invariant.by_key h);
    }

pub returns-clause-moved : goal.returns-clause-moved
returns-clause-moved c = record {
  whole = λ parts z.
      let k = c.loop-places.invariant.whole parts z in
      let none : places_of (drop c.loop-places.places-index c.args.moved.now) ≡ [] =
      ap places_of (drop_of_length-le c.args.moved.now (omega (arith, c.loop-places-test.false))) in
      subst (λ l. IsPermutation (parts_to c.args.count c.args.first (length c.args.buckets.now) parts
      ++ parts_of (records_of c.args.buckets.now))
      (parts_to c.args.count c.args.first (length c.args.buckets.now) l ++ parts_of (records_of c.loop-places.buckets)))
      (zip_none (IsPartPlaceOf c.args.pieces.now) k.0 (subst (AllZip (IsPartPlaceOf c.args.pieces.now) k.0) none k.1))
      k.2;
  by_key = c.loop-places.invariant.by_key;
}
