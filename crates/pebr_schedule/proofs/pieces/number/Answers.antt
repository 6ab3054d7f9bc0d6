use Rattle.std.proofs.Common.{◌≡◌, ◌∙◌, ◌+◌, ◌^◌, ◌<◌, ap, sym, get_or, arith, Some}
use Rattle.std.proofs.lemmas.List.{take_all}
use Rattle.pebr_schedule.specs.Numbers.{value_of}
use Rattle.pebr_schedule.proofs.Values.{value_more, value_front, numeral_digit, digit_low, number_large, number_small}
use Rattle.pebr_schedule.proofs.pieces.number.Goals as goal

pub number_with_digit-requires : goal.number_with_digit-requires
number_with_digit-requires c =
    digit_low (get_or c.args.piece.now c.loop-byte.byte-index 0)
    (numeral_digit c.args.piece.now c.loop-byte.byte-index
    (sym c.is_numeral.ensures ∙ c.if-not-is_numeral.false) c.loop-byte-test.true)

pub returns-in-None : goal.returns-in-None
returns-in-None c =
    let piece = c.args.piece.now in
    let i = c.loop-byte.byte-index in
    let more = value_more piece i c.loop-byte-test.true in
    let low = value_front piece (i + 1) in
    let same = c.loop-byte.invariant.1 in
    let over = c.in-None.ensures in
    sym (number_large piece (omega (arith, more, low, same, over)))

pub returns : goal.returns
returns c =
    let piece = c.args.piece.now in
    let whole : c.loop-byte.number ≡ value_of piece =
    c.loop-byte.invariant.1 ∙ ap value_of (take_all c.loop-byte.byte-index piece c.loop-byte-test.false) in
    let low : value_of piece < 2 ^ 64 = omega (arith, c.loop-byte.invariant.0, whole) in
    sym (number_small piece (sym c.is_numeral.ensures ∙ c.if-not-is_numeral.false) low ∙ ap (λ n. Some n) (sym whole))
