-- Each turn leaves one more list behind.
use Rattle.std.proofs.Common.{◌<◌, ◌∙◌, refl, arith, length}
use Rattle.record_ledger.proofs.Listed.{all_behind, one_behind, place_here}
use Rattle.record_ledger.proofs.record_list.place_at.Goals as goal

pub loop-places-init : goal.loop-places-init
loop-places-init c = refl

pub returns-then-left-len : goal.returns-then-left-len
returns-then-left-len c =
    let many = c.places-item.result.ok.0 in
    let low : c.loop-places.left < length c.places-item.result.items = omega (arith, c.if-left-len.true, c.len.ensures, many) in
    place_here c.args.order.now c.args.number c.loop-places.places-index c.loop-places.left c.places-item.result
    c.loop-places.invariant c.loop-places-test.true c.places-item.is c.index.result.now low c.index.ensures

pub loop-places-preserved : goal.loop-places-preserved
loop-places-preserved c = one_behind c.args.order.now c.args.number c.loop-places.places-index c.loop-places.left
    c.places-item.result c.loop-places.invariant c.loop-places-test.true c.places-item.is c.len-left.result
    (c.len-left.ensures ∙ c.places-item.result.ok.0)
    (omega (arith, c.if-left-len.false, c.len.ensures, c.len-left.ensures))

pub unreachable-requires : goal.unreachable-requires
unreachable-requires c =
    let past = all_behind c.args.order.now c.args.number c.loop-places.places-index c.loop-places.left
    c.loop-places.invariant c.loop-places-test.false in
    omega (arith, past, c.requires)
