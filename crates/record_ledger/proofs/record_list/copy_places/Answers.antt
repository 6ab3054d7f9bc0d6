-- Each turn leaves one more list behind.
use Rattle.std.proofs.Common.{◌≡◌, ◌+◌, ◌-◌, ◌≤◌, ◌∙◌, ap, refl, arith, length, take, drop}
use Rattle.record_ledger.proofs.Listed.{one_behind, places_here}
use Rattle.record_ledger.proofs.record_list.copy_places.Goals as goal

pub loop-places-init : goal.loop-places-init
loop-places-init c = refl

pub returns-then-copies-len : goal.returns-then-copies-len
returns-then-copies-len c =
    let left = c.loop-places.left in
    let count = length c.args.copies.now in
    let same : left + length c.loop-places.copies - left ≡ count = omega (arith, c.loop-places.auto.copies) in
    let low : left + count ≤ length c.places-item.result.items = omega (
      arith,
      c.if-left-len.true,
      c.len.ensures,
      c.if-copies-len.true,
      c.len-then-left-len.ensures,
      c.places-item.result.ok.0,
      c.loop-places.auto.copies,
    ) in
    c.copy_from_slice.ensures.after ∙ ap (λ n. take n (drop left c.deref.result.now)) same
    ∙ ap (λ l. take count (drop left l)) c.deref.ensures.value
    ∙ places_here c.args.order.now c.args.number c.loop-places.places-index left c.places-item.result
    c.loop-places.invariant c.loop-places-test.true c.places-item.is count low

pub loop-places-preserved : goal.loop-places-preserved
loop-places-preserved c = one_behind c.args.order.now c.args.number c.loop-places.places-index c.loop-places.left
    c.places-item.result c.loop-places.invariant c.loop-places-test.true c.places-item.is c.len-left.result
    (c.len-left.ensures ∙ c.places-item.result.ok.0)
    (omega (arith, c.if-left-len.false, c.len.ensures, c.len-left.ensures))
