-- Each turn counts the places of one more list.
use Rattle.std.proofs.Common.{length, ap, arith}
use Rattle.std.proofs.lemmas.List.{take_all}
use Rattle.record_ledger.specs.Buckets.{places_of}
use Rattle.record_ledger.proofs.Seamed.{places_counted}
use Rattle.record_ledger.proofs.record_list.count_of.Goals as goal

pub loop-places-preserved : goal.loop-places-preserved
loop-places-preserved c =
    let list = c.places-item.result in
    let more = places_counted c.args.order.now c.loop-places.places-index list c.loop-places-test.true c.places-item.is in
    omega (arith, more, c.loop-places.invariant, c.len.ensures, list.ok.0, c.saturating_add-count.ensures)

pub returns : goal.returns
returns c =
    let all = ap (λ l. length (places_of l)) (take_all c.loop-places.places-index c.args.order.now c.loop-places-test.false) in
    omega (arith, all, c.loop-places.invariant, c.in_ok-_room.ensures, c.in_ok-_room._room.small)
