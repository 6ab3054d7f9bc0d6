-- Each turn copies one more place.
use Rattle.std.proofs.Common.{◌≡◌, ◌+◌, ◌<◌, ◌∙◌, get_or, arith, length, length-drop, min, drop}
use Rattle.record_ledger.specs.declared.place.Place.{Place}
use Rattle.record_ledger.specs.Buckets.{places_of}
use Rattle.std.proofs.lemmas.List.{get_or_default}
use Rattle.record_ledger.proofs.Copied.{one_more, run_is}
use Rattle.record_ledger.proofs.record_list.copy_each_place.Goals as goal

pub loop-at-preserved : goal.loop-at-preserved
loop-at-preserved c =
    let all = places_of c.args.order.now in
    let low : c.args.number + c.loop-at.at < length all = omega (arith, c.loop-at-test.true, c.requires.room) in
    one_more (λ k d (x : Place). x ≡ get_or all (c.args.number + k) d) c.loop-at.copies c.loop-at.at c.place_at.result
    (omega (arith, c.loop-at-test.true, c.loop-at.auto.copies))
    (λ d. c.place_at.ensures ∙ get_or_default all (c.args.number + c.loop-at.at) c.place_at.result d low)
    c.loop-at.invariant

pub returns : goal.returns
returns c =
    let all = places_of c.args.order.now in
    let run = c.loop-at.copies in
    let most : length run ≡ min (length c.args.copies.now) (length (drop c.args.number all)) =
    omega (arith, c.loop-at.auto.copies, c.requires.room, length-drop c.args.number all) in
    run_is (length c.args.copies.now) run all c.args.number most
    (λ k d l. c.loop-at.invariant k d (omega (arith, l, c.loop-at.auto.copies, c.loop-at-test.false)))
