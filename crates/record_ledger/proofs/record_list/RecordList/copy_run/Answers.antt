-- The copies are the records from the place on, as many as there are, or 16.
use Rattle.std.proofs.Common.{◌≡◌, ◌≤◌, ◌<◌, ◌-◌, ◌^◌, ◌∙◌, ap, sym, subst, length, drop, take, min, arith, rules}
use Rattle.std.proofs.lemmas.List.{length-take-le, take_at}
use Rattle.record_ledger.specs.Buckets.{places_of}
use Rattle.record_ledger.proofs.Copied.{as_long, all_there, copied}
use Rattle.record_ledger.proofs.record_list.RecordList.copy_run.Goals as goal

pub copy_places-requires-clause-few : goal.copy_places-requires-clause-few
copy_places-requires-clause-few c =
    let ps = places_of c.self.inside.order.items in
    let many = as_long c.self.inside.store ps c.args.self.now c.self.invariant.0 c.self.view_is in
    subst (λ l. length (places_of l) < 2 ^ 64) (sym c.deref.ensures.value)
    (omega (arith, many, c.len.ensures, c.len.type_inv))

pub copy_places-requires-clause-room : goal.copy_places-requires-clause-room
copy_places-requires-clause-room c =
    let ps = places_of c.self.inside.order.items in
    let count = c.min-count.result in
    let many = as_long c.self.inside.store ps c.args.self.now c.self.invariant.0 c.self.view_is in
    let room : count ≤ length (places_of c.deref.result.now) - c.args.place =
    subst (λ l. count ≤ length (places_of l) - c.args.place) (sym c.deref.ensures.value)
    (omega (arith, many, c.min-count.ensures, c.saturating_sub.ensures, c.len.ensures)) in
    subst (λ n. n ≤ length (places_of c.deref.result.now) - c.args.place)
    (sym (length-take-le count _ (omega (arith, c.min-count.ensures)))) room

pub copy_parts-requires-clause-places : goal.copy_parts-requires-clause-places
copy_parts-requires-clause-places c =
    all_there c.self.inside.store (places_of c.self.inside.order.items) c.args.self.now c.self.invariant.0 c.self.view_is _
    c.args.place (places_of c.deref.result.now) c.copy_places.new.copies c.copy_places.ensures
    (ap places_of c.deref.ensures.value)

pub give_reasons-requires-clause-places : goal.give_reasons-requires-clause-places
give_reasons-requires-clause-places c =
    all_there c.self.inside.store (places_of c.self.inside.order.items) c.args.self.now c.self.invariant.0 c.self.view_is _
    c.args.place (places_of c.deref.result.now) c.copy_places.new.copies c.copy_places.ensures
    (ap places_of c.deref.ensures.value)

pub returns : goal.returns
returns c =
    let run = c.give_reasons.new.run in
    let parts = c.copy_parts.new.run in
    let count = c.min-count.result in
    let self = c.args.self.now in
    let ps = places_of c.self.inside.order.items in
    let place = c.args.place in
    let room : length c.run.inside.records ≡ 16 = search rules in
    let long : length parts ≡ count =
    c.copy_parts.ensures.many
    ∙ length-take-le count c.run.inside.records (omega (arith, room, c.min-count.ensures)) in
    let same : length run ≡ count = c.give_reasons.ensures.many ∙ ap length (take_at parts _ count long) ∙ long in
    let most : count ≡ min 16 (length self - place) =
    omega (arith, c.min-count.ensures, c.saturating_sub.ensures, c.len.ensures) in
    let are : c.copy_places.new.copies ≡ take count (drop place ps) = c.copy_places.ensures
    ∙ ap (λ n. take n (drop place (places_of c.deref.result.now)))
    (length-take-le count _ (omega (arith, c.min-count.ensures)))
    ∙ ap (λ l. take count (drop place (places_of l))) c.deref.ensures.value in
    take_at run _ count same ∙ copied c.self.inside.store ps self c.self.invariant.0 c.self.view_is 16 count place
    c.copy_places.new.copies c.no_place-places.result run are most same c.give_reasons.ensures.records
