-- The record lies where its place says.
use Rattle.std.proofs.Common.{◌≡◌, ◌<◌, ◌∙◌, get_or, length, ap, sym, subst, arith}
use Rattle.record_ledger.specs.Buckets.{places_of, record_at}
use Rattle.record_ledger.proofs.Copied.{as_long, place_there, record_here, same_found}
use Rattle.record_ledger.proofs.record_list.RecordList.get.Goals as goal

pub place_at-place-requires : goal.place_at-place-requires
place_at-place-requires c =
    let ps = places_of c.self.inside.order.items in
    let many = as_long c.self.inside.store ps c.args.self.now c.self.invariant.0 c.self.view_is in
    subst (λ l. c.args.place < length (places_of l)) (sym c.deref.ensures.value) (omega (arith, many, c.requires))

pub part_at-requires : goal.part_at-requires
part_at-requires c =
    let ps = places_of c.self.inside.order.items in
    let q = c.place_at-place.result in
    record {
      place = place_there c.self.inside.store ps c.args.self.now c.self.invariant.0 c.self.view_is c.args.place q c.requires
          (c.place_at-place.ensures ∙ ap (λ l. get_or (places_of l) c.args.place q) c.deref.ensures.value);
    }

pub reason_at-requires-clause-place : goal.reason_at-requires-clause-place
reason_at-requires-clause-place c =
    let ps = places_of c.self.inside.order.items in
    let q = c.place_at-place.result in
    place_there c.self.inside.store ps c.args.self.now c.self.invariant.0 c.self.view_is c.args.place q c.requires
    (c.place_at-place.ensures ∙ ap (λ l. get_or (places_of l) c.args.place q) c.deref.ensures.value)

pub returns : goal.returns
returns c =
    let store = c.self.inside.store in
    let ps = places_of c.self.inside.order.items in
    let q = c.place_at-place.result in
    let is : q ≡ get_or ps c.args.place q =
    c.place_at-place.ensures ∙ ap (λ l. get_or (places_of l) c.args.place q) c.deref.ensures.value in
    let there = place_there store ps c.args.self.now c.self.invariant.0 c.self.view_is c.args.place q c.requires is in
    record_here store ps c.args.self.now c.self.invariant.0 c.self.view_is c.args.place q _ _ c.requires
    (ap (record_at store) (sym is) ∙ same_found (record_at store q) there _ c.part_at.ensures c.reason_at.ensures)
