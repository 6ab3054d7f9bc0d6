use Rattle.std.proofs.Common.{◌∙◌, not, ◌||◌, eqb, get_or, length, ap, sym, arith}
use Rattle.std.proofs.lemmas.Bool.{eqb-false, ne_eqb}
use Rattle.pebr_schedule.proofs.Values.{numeral_by}
use Rattle.pebr_schedule.proofs.pieces.is_numeral.Goals as goal

pub returns-else-piece-eq1 : goal.returns-else-piece-eq1
returns-else-piece-eq1 c =
    let piece = c.args.piece.now in
    let some = eqb-false (length piece) 0 (sym c.is_empty.ensures ∙ c.if-not-is_empty.true) in
    sym (numeral_by piece (λ k lt. c.loop-byte.invariant k (omega (arith, c.loop-byte-test.false))) (omega (arith, some))
    ∙ ap (λ b. b || not (eqb (get_or piece 0 0) 48)) (ne_eqb (length piece) 1 c.if-piece-eq1.false))
