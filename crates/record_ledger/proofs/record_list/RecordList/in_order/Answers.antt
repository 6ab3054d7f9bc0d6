-- The places are those of all records, and the sorted lists of the shares are in order together.
use Rattle.std.proofs.Common.{◌++◌, length, take, drop, ap, ◌∙◌}
use Rattle.record_ledger.specs.Buckets.{places_of}
use Rattle.record_ledger.proofs.Behind.{all_ahead, all_placed}
use Rattle.record_ledger.proofs.Placed.{all_sorted, key_in_order}
use Rattle.record_ledger.proofs.Seamed.{AreOrdered, ordered}
use Rattle.record_ledger.proofs.record_list.RecordList.in_order.Given.{Over}
use Rattle.record_ledger.proofs.record_list.RecordList.in_order.Goals as goal

-- the lists as they are given back, added to and sorted
in_turn : (g : Over) (c : goal.In_ok-count g)
    → AreOrdered c.args.store (places_of c.args.alone.items) (places_of (take c.args.alone.len (c.sort_places.new.order
    ++ drop (length c.sort_places.new.order) (take c.args.alone.len (c.add_all_places.new.order
    ++ drop (length c.add_all_places.new.order) c.args.alone.items)))))
in_turn g c = ordered c.args.store c.args.shares.now c.args.alone.len c.args.alone.items c.deref_mut.result.now
    c.add_all_places.new.order c.deref_mut-2.result.now c.sort_places.new.order c.args.alone.ok.0
    c.deref_mut.ensures.value c.in_ok-add_all_places.ensures.many c.in_ok-add_all_places.ensures.places
    c.in_ok-add_all_places.ensures.shared c.requires.shared c.deref_mut-2.ensures.value c.sort_places.ensures

pub invariant_of-result : goal.invariant_of-result
invariant_of-result g c =
    let store = c.args.store in
    let o = in_turn g c in
    let places = c.requires.places in (
      (all_sorted store _ _ _ (all_placed store places.0 (places_of c.args.alone.items) places.1) o.same o.sorted).0,
      c.in_ok-count.ensures ∙ ap (λ l. length (places_of l)) c.deref.ensures.value,
    )

pub returns-clause-permutation : goal.returns-clause-permutation
returns-clause-permutation g c = λ first z.
    let store = c.args.store in
    let o = in_turn g c in
    (all_sorted store _ _ _ (all_placed store first (places_of c.args.alone.items) z) o.same o.sorted).1

pub returns-clause-order : goal.returns-clause-order
returns-clause-order g c =
    let store = c.args.store in
    let o = in_turn g c in
    let places = c.requires.places in
    (all_sorted store _ _ _ (all_placed store places.0 (places_of c.args.alone.items) places.1) o.same o.sorted).2

pub returns-clause-by_key : goal.returns-clause-by_key
returns-clause-by_key g c = λ first z up key.
    let store = c.args.store in
    let alone = places_of c.args.alone.items in
    let o = in_turn g c in
    let places = c.requires.places in
    key_in_order store key _ _ _ (all_placed store first alone z) up
    (all_ahead store places.0 alone places.1 places.2 c.requires.below) o.same o.sorted
