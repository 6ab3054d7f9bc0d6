-- What was read is a fragment with these words, and no other fragment has them.
use Rattle.std.proofs.Common.{◌≡◌, ℕ, Some, ap, sym, get_or}
use Rattle.flow_parts.proofs.PartWords.{part_same}
use Rattle.flow_parts.specs.Parts.{part_words}
use Rattle.flow_parts.proofs.fragment.Fragment.of_words.Goals as goal

pub returns-then-flags-le65535-clause-round_trip : goal.returns-then-flags-le65535-clause-round_trip
returns-then-flags-le65535-clause-round_trip c = λ fragment h.
    let at : (k : ℕ) → get_or (part_words fragment) k 0 ≡ get_or c.args.words.now k 0 =
    λ k. ap (λ ws. get_or ws k 0) h in
    let key : Some c.in_ok-key.key ≡ Some fragment.key =
    c.in_ok-key.ensures.round_trip fragment.key (cc (at 0, at 1, at 2, at 3, at 4)) in
    let key' : c.in_ok-key.key ≡ fragment.key = cc in
    ap Some (part_same _ fragment key' (sym (at 5)) (sym (at 6)) (sym (at 7)) (sym (at 8)) (sym (at 9)))
