use Rattle.std.proofs.Common.{◌≡◌, ◌<◌, ◌+◌, ◌∙◌, ◌++◌, [], ◌∷◌, length, set, take, sym, ap, arith, List, ℕ}
use Rattle.std.proofs.lemmas.List.{length-set, append_assoc}
use Rattle.turn_cache.specs.Hands.{Hand}
use Rattle.turn_cache.specs.Moves.{Sat, more_read}
use Rattle.turn_cache.proofs.Writing.{take_next, take_whole, read_on}
use Rattle.turn_cache.proofs.cache.TurnCache.read_entry.Goals as goal

pub loop-k-preserved : goal.loop-k-preserved
loop-k-preserved c =
    let before = c.loop-k.invariant in
    let k : ℕ = c.loop-k.k in
    let n : ℕ = c.load_word.result in
    let hand : Hand = c.args.seat.now.me.0 in
    let words : List ℕ = set c.loop-k.words k n in
    let low : k < length c.loop-k.words = (let l = before.long in omega (arith, l, c.loop-k-test.true)) in
    let more : take (k + 1) words ≡ take k c.loop-k.words ++ n ∷ [] = take_next c.loop-k.words k n low in
    let long : length words ≡ 10 = length-set c.loop-k.words k n ∙ before.long in
    let now : c.loop-k.seat.me.0.read ≡ hand.read ++ take k c.loop-k.words = ap (λ (m : Sat). m.0.read) before.me in
    record {
      low = omega (arith, c.loop-k-test.true);
      long = long;
      at = c.load_word.ensures.at ∙ before.at;
      me = c.load_word.ensures.loads.0 ∙ (ap (λ (m : Sat). (more_read (n ∷ []) m.0, m.1)) before.me
          ∙ (ap (λ (h : Hand). (h, c.args.seat.now.me.1)) (read_on hand (take k c.loop-k.words) (n ∷ []))
          ∙ ap (λ (ws : List ℕ). (more_read ws hand, c.args.seat.now.me.1)) (sym more)));
      whole = λ last. c.load_word.ensures.loads.1 hand.read words c.args.place
          (ap (λ r. r ++ n ∷ []) now
          ∙ (append_assoc hand.read (take k c.loop-k.words) (n ∷ [])
          ∙ ap (λ z. hand.read ++ z) (sym more ∙ (ap (λ z. take z words) last ∙ take_whole words 10 long))))
          c.requires.reading.1 c.requires.below.1 long;
    }
