use Rattle.std.proofs.Common.{rules, ◌≡◌, ◌≢◌, ◌<◌, ◌+◌, ◌∙◌, length, set, get_or, refl, sym, ap, arith, List, ℕ}
use Rattle.std.proofs.lemmas.List.{length-set, get_or-set_same, get_or-set_other}
use Rattle.atomic_table.specs.declared.shared.Seat.{Seat}
use Rattle.turn_cache.specs.declared.rule.Known.{Known}
use Rattle.turn_cache.specs.Hands.{Turn, writing}
use Rattle.turn_cache.specs.Moves.{Sat, at_turn}
use Rattle.turn_cache.proofs.Writing.{mixed, mixed_none, mixed_all, mixed_next, mixed_here, mixed_stays}
use Rattle.turn_cache.proofs.cache.TurnCache.write_rest.Goals as goal
use Rattle.turn_cache.proofs.cache.TurnCache.write_rest.Goals.{then-k-ne5, else-k-ne5}

-- the words with the first one stored
abbrev first_stored : List ℕ → List ℕ → List ℕ
first_stored old new = set old 5 (get_or new 5 0)

-- a further word stands as it was read
stands : (k : ℕ) (new old : List ℕ) → k < length new → length old ≡ length new → k ≢ 5
    → get_or (mixed k new (first_stored old new)) k 0 ≡ get_or old k 0
stands k new old low long further =
    mixed_here k new (first_stored old new) low
    (let l = length-set old 5 (get_or new 5 0) in omega (arith, l, low, long))
    ∙ get_or-set_other old 5 k (get_or new 5 0) 0 further

-- the first one is new already
first_stands : (new old : List ℕ) → 5 < length new → length old ≡ length new
    → mixed 6 new (first_stored old new) ≡ mixed 5 new (first_stored old new)
first_stands new old low long =
    mixed_stays 5 new (first_stored old new) low
    (let l = length-set old 5 (get_or new 5 0) in omega (arith, l, low, long))
    (get_or-set_same old 5 (get_or new 5 0) 0 (omega (arith, low, long)))

pub loop-k-init : goal.loop-k-init
loop-k-init c = record {
  low = omega arith;
  at = refl;
  me = ap (λ (t : Turn). (at_turn t c.args.seat.now.me.0, c.args.seat.now.me.1))
      (c.requires.writing ∙ ap (writing c.args.set c.args.place c.args.new.now)
      (sym (mixed_none c.args.new.now (first_stored c.args.old.now c.args.new.now))));
}

pub write_word-requires-clause-writing : goal.write_word-requires-clause-writing
write_word-requires-clause-writing c = (
  c.args.new.now,
  mixed c.loop-k.k c.args.new.now (first_stored c.args.old.now c.args.new.now),
  ap (λ (m : Sat). m.0.turn) c.loop-k.invariant.me,
  stands c.loop-k.k c.args.new.now c.args.old.now (search rules) (search rules) (search rules),
  refl,
)

pub loop-k-preserved : goal.loop-k-preserved
loop-k-preserved c =
    let before = c.loop-k.invariant in
    let k : ℕ = c.loop-k.k in
    let new : List ℕ = c.args.new.now in
    let old : List ℕ = c.args.old.now in
    let long : length old ≡ length new = c.told-old ∙ sym c.told-new in
    let now : ℕ → List ℕ = λ n. mixed n new (first_stored old new) in
    let me : List ℕ → Sat =
    λ ws. (at_turn (writing c.args.set c.args.place new ws) c.args.seat.now.me.0, c.args.seat.now.me.1) in
    elim c.if-k-ne5.branch [
      | then-k-ne5 w ↦
          let low : k < length new = (let t = c.told-new in omega (arith, c.loop-k-test.true, t)) in
          record {
            low = omega (arith, c.loop-k-test.true);
            at = ap (λ (s : Seat (Unit {0}) Known). s.table_id) w.seat-is ∙ (w.write_word.ensures.at ∙ before.at);
            me = ap (λ (s : Seat (Unit {0}) Known). s.me) w.seat-is
                ∙ (w.write_word.ensures.written new (now k) (ap (λ (m : Sat). m.0.turn) before.me)
                (stands k new old low long w.if-k-ne5.true)
                ∙ (ap (λ (m : Sat).
                (at_turn (writing c.args.set c.args.place new (set (now k) k (get_or new k 0))) m.0, m.1)) before.me
                ∙ ap me (mixed_next k new (first_stored old new) low
                (let l = length-set old 5 (get_or new 5 0) in omega (arith, l, low, long)))));
          }
      | else-k-ne5 w ↦
          record {
            low = omega (arith, c.loop-k-test.true);
            at = ap (λ (s : Seat (Unit {0}) Known). s.table_id) w.seat-is ∙ before.at;
            me = ap (λ (s : Seat (Unit {0}) Known). s.me) w.seat-is
                ∙ (before.me
                ∙ ap me (ap now w.if-k-ne5.false
                ∙ (sym (first_stands new old (let t = c.told-new in omega (arith, t)) long)
                ∙ ap (λ (n : ℕ). now (n + 1)) (sym w.if-k-ne5.false))));
          }
    ]

pub returns-clause-written : goal.returns-clause-written
returns-clause-written c =
    let before = c.loop-k.invariant in
    let last : c.loop-k.k ≡ 10 = omega (arith, before.low, c.loop-k-test.false) in
    before.me
    ∙ (ap (λ (k : ℕ). (
      at_turn (writing c.args.set c.args.place c.args.new.now
          (mixed k c.args.new.now (first_stored c.args.old.now c.args.new.now))) c.args.seat.now.me.0,
      c.args.seat.now.me.1,
    )) last
    ∙ ap (λ (ws : List ℕ).
    (at_turn (writing c.args.set c.args.place c.args.new.now ws) c.args.seat.now.me.0, c.args.seat.now.me.1))
    (mixed_all c.args.new.now (first_stored c.args.old.now c.args.new.now) 10 (search rules) (search rules)))
