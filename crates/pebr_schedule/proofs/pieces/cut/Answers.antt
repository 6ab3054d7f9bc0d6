use Rattle.std.proofs.Common.{◌∙◌, ◌∷◌, ◌+◌, ap, sym, take, drop, arith, add-one}
use Rattle.std.proofs.lemmas.List.{take_rest}
use Rattle.pebr_schedule.specs.Numbers.{pieces_of}
use Rattle.pebr_schedule.proofs.Cuts.{cut_at, cut_none}
use Rattle.pebr_schedule.proofs.pieces.cut.Goals as goal

pub returns-then-byte-at-clause-pieces : goal.returns-then-byte-at-clause-pieces
returns-then-byte-at-clause-pieces c =
    let text = c.args.text.now in
    let place = c.loop-place.place in
    cut_at c.args.at text place c.loop-place-test.true c.if-byte-at.true c.loop-place.invariant
    ∙ (ap (λ n. take place text ∷ pieces_of c.args.at (drop n text)) (sym (add-one place))
    ∙ ap (λ l. take place text ∷ pieces_of c.args.at l) (sym (take_rest text (place + 1))))

pub returns-clause-pieces : goal.returns-clause-pieces
returns-clause-pieces c =
    cut_none c.args.at c.args.text.now (λ k lt. c.loop-place.invariant k (omega (arith, c.loop-place-test.false)))
