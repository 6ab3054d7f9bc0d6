-- A further word of an entry is stored.
use Rattle.std.proofs.Common.{◌≡◌, ⊎_elim, inl, inr, ℕ, suc, ◌+◌, ◌-◌, ◌*◌, ◌<◌, Bool, true, cond, eqb, ◌&&◌, List}
use Rattle.std.proofs.Common.{length, get_or, set, sym, refl, ap, ◌∙◌, subst, arith, eq-eqb}
use Rattle.std.proofs.lemmas.List.{length-set, get_or-set_same, get_or-set_other}
use mathlib.Core.Logic.{dite}
use native.Mathlib.Decide.{ℕ_discrete}
use mathlib.Core.Option.{none}
use Rattle.atomic_table.specs.Table.{step, keeps, Allows}
use Rattle.cache_face.specs.Keeping.{Keeps}
use Rattle.turn_cache.specs.declared.rule.Told.{Told}
use Rattle.turn_cache.specs.Hands.{Hand, Turn, writing, number_of, is_at, turns_held, claim, at_work, total}
use Rattle.turn_cache.specs.Moves.{Sat, Stores, written_turn, at_turn}
use Rattle.turn_cache.specs.Places.{turn_word, set_word}
use Rattle.turn_cache.specs.Ruled.{Ruled, Fits, FitsTurn, LiveAt}
use Rattle.turn_cache.proofs.Totals.{total-set, total-at}
use Rattle.turn_cache.proofs.Frames.{build, notes_same, not_other, frame_content, SameElsewhere, apart_turn}

-- what the seat is at afterwards
pub written_is : (at_set place k value : ℕ) (new now : List ℕ) (t : Turn) → t ≡ writing at_set place new now
    → written_turn (64 * at_set + 16 + (10 * place + k)) value t ≡ writing at_set place new (set now k value)
written_is at_set place k value new now t e = ap (written_turn (64 * at_set + 16 + (10 * place + k)) value) e
    ∙ ap (λ m. writing at_set place new (set now m value))
    (let d : 64 * at_set + 16 + (10 * place + k) - (64 * at_set + 16 + 10 * place) ≡ k = omega arith in d)

-- a seat that writes an entry is at work there
pub work_here : (at_set place q p : ℕ) (new now : List ℕ) → at_set ≡ q → place ≡ p
    → at_work q p (writing at_set place new now) ≡ 1
work_here at_set place q p new now e e' =
    ap (λ (b : Bool). let n : ℕ = cond (b && eqb place p) 1 0 in n) (eq-eqb at_set q e)
    ∙ ap (λ (b : Bool). let n : ℕ = cond b 1 0 in n) (eq-eqb place p e')

nothing_moved : (at_set : ℕ) (contents : List (List ℕ)) → SameElsewhere at_set contents contents
nothing_moved at_set contents at place ne low = refl

pub stores : (told : Told) (slots id at_set place k value : ℕ) (new now : List ℕ) (me : Sat)
    → me.0.turn ≡ writing at_set place new now → value ≡ get_or new k 0 → at_set < told.sets → place < 4 → k < 10
    → Allows (Ruled told) slots id me (64 * at_set + 16 + (10 * place + k)) (λ _. value)
    (λ _. Stores (step slots (64 * at_set + 16 + (10 * place + k)) value 0 none) me)
stores told slots id at_set place k value new now me is value_is low low' low'' s h wide at fits =
    let i : ℕ = 64 * at_set + 16 + (10 * place + k) in
    let v : Hand = me.0 in
    let w : Hand = at_turn (writing at_set place new (set now k value)) v in
    let f = h.each id v at in
    let old : FitsTurn told.sets s.words h.contents v.read (writing at_set place new now) =
    subst (FitsTurn told.sets s.words h.contents v.read) is f.turn in
    let inside : i < length s.words = (let x = h.wide in omega (arith, x, low, low', low'')) in
    let work : (q p : ℕ) → at_work q p w.turn ≡ at_work q p v.turn = λ q p. sym (ap (at_work q p) is) in
    let claims : (q : ℕ) → claim q w ≡ claim q v =
    λ q. sym (ap (λ (t : Turn). let n : ℕ = cond (is_at q t) (suc (number_of v.numbers)) 0 in n) is) in
    let holds : (q : ℕ) → turns_held q w ≡ turns_held q v =
    λ q. sym (ap (λ (t : Turn). let n : ℕ = cond (is_at q t) 1 0 in n) is) in
    let has : is_at at_set v.turn ≡ true = ap (is_at at_set) is ∙ eq-eqb at_set at_set refl in
    let mine : Fits told.sets (set s.words i value) h.contents w = record {
      seats = f.seats;
      gone = f.gone;
      live = subst (LiveAt (length v.numbers)) is f.live;
      turn = (
        low,
        low',
        length-set now k value ∙ old.2,
        old.3,
        λ m below. dite (ℕ_discrete m k)
            (λ same. ap (λ x. get_or (set now k value) x 0) same
            ∙ (get_or-set_same now k value 0 (let l = old.2 in omega (arith, l, low''))
            ∙ sym (ap (λ x. get_or (set s.words i value) (64 * at_set + 16 + (10 * place + x)) 0) same
            ∙ get_or-set_same s.words i value 0 inside)))
            (λ other. get_or-set_other now k m value 0 other
            ∙ (old.4 m below
            ∙ sym (get_or-set_other s.words i (set_word at_set (10 * place + m)) value 0
            (λ e. other (omega (arith, e)))))),
        λ m below. dite (ℕ_discrete m k)
            (λ same. inl (ap (λ x. get_or (set now k value) x 0) same
            ∙ (get_or-set_same now k value 0 (let l = old.2 in omega (arith, l, low''))
            ∙ (value_is ∙ ap (λ x. get_or new x 0) (sym same)))))
            (λ other. let was = get_or-set_other now k m value 0 other in
            ⊎_elim (λ new_one. inl (was ∙ new_one)) (λ as_read. inr (was ∙ as_read)) (old.5 m below)),
        old.6,
        λ m below elsewhere. old.7 m below elsewhere
            ∙ sym (get_or-set_other s.words i (set_word at_set m) value 0
            (λ e. ⊎_elim (λ before. omega (arith, e, before)) (λ behind. omega (arith, e, behind, low'')) elsewhere)),
      );
    } in (
      w,
      keeps,
      tt,
      build told s h id v w at refl refl i value me.1 h.contents h.many h.ten
          (λ q lower. (let c = claims q in
          let keep : get_or (set s.words i value) (turn_word q) 0 ≡ get_or s.words (turn_word q) 0 =
          get_or-set_other s.words i (turn_word q) value 0
          (λ e. apart_turn q at_set (10 * place + k) (omega (arith, low', low'')) (sym e)) in omega (arith, c, keep)))
          (λ q. (let t = total-set (turns_held q) s.views id v w at in let o = h.once q in let e = holds q in
          omega (arith, t, o, e)))
          (λ q p m lower lower' lower'' none.
          let t = total-set (λ hand. at_work q p hand.turn) s.views id v w at in
          let same_work = work q p in
          let none_before : total (λ hand. at_work q p hand.turn) s.views ≡ 0 = omega (arith, t, none, same_work) in
          dite (ℕ_discrete (set_word q (10 * p + m)) i)
          (λ here. absurd
          (let one = work_here at_set place q p new (set now k value)
          (omega (arith, here, lower', lower'', low', low'')) (omega (arith, here, lower', lower'', low', low'')) in
          let least = total-at (λ hand. at_work q p hand.turn) s.views id v at in
          omega (arith, one, least, none_before, same_work)))
          (λ other. h.settled q p m lower lower' lower'' none_before
          ∙ sym (get_or-set_other s.words i (set_word q (10 * p + m)) value 0 other)))
          (λ j u ne e. frame_content told.sets value at_set (10 * place + k)
          (omega (arith, low', low'')) s.words h.contents h.contents (nothing_moved at_set h.contents) u
          (not_other told s at_set id j v u h at has ne e) (h.each j u e))
          mine
          (subst (Keeps told.timeouts told.sets h.contents) (sym (notes_same s.views id v w at refl)) h.kept),
      ap (λ t. (at_turn t v, me.1)) (sym (written_is at_set place k value new now v.turn is)),
    )
