-- The turn of a set is given back.
use Rattle.std.proofs.Common.{◌≡◌, ℕ, suc, ◌+◌, ◌*◌, ◌<◌, Bool, true, false, cond, eqb, ◌&&◌, List, [], length, get_or}
use Rattle.std.proofs.Common.{set, sym, refl, ap, ◌∙◌, subst, arith, eq-eqb, ne_eqb}
use Rattle.std.proofs.lemmas.List.{get_or-set_same, get_or-set_other}
use mathlib.Core.Logic.{dite}
use native.Mathlib.Decide.{ℕ_discrete}
use Rattle.atomic_table.specs.Table.{keeps, Allows}
use Rattle.cache_face.specs.Keeping.{Keeps}
use Rattle.turn_cache.specs.declared.rule.Told.{Told}
use Rattle.turn_cache.specs.Hands.{Hand, Turn, idle, writing, number_of, is_at, turns_held, claim, at_work}
use Rattle.turn_cache.specs.Moves.{Sat, Gives, at_turn}
use Rattle.turn_cache.specs.Places.{turn_word, set_word, content_place}
use Rattle.turn_cache.specs.Ruled.{Ruled, FitsTurn}
use Rattle.turn_cache.proofs.Totals.{total-set}
use Rattle.turn_cache.proofs.Frames.{build, notes_same, frame_turn, apart_turn}
use Rattle.turn_cache.proofs.TakeStep.{one_claim}

no_work : (b c : Bool) → (b ≡ true → c ≡ true → ⊥) → ◌≡◌ {A = ℕ} (cond (b && c) 1 0) 0
no_work true true no_one = absurd (no_one refl refl)
no_work true false no_one = refl
no_work false c no_one = refl

eq_of : (a b : ℕ) → eqb a b ≡ true → a ≡ b
eq_of a b h = dite (ℕ_discrete a b) (λ e. e) (λ ne. absurd (let z : false ≡ true = sym (ne_eqb a b ne) ∙ h in cc))

pub gives : (told : Told) (slots id at_set place : ℕ) (new : List ℕ) (me : Sat)
    → me.0.turn ≡ writing at_set place new new → at_set < told.sets
    → Allows (Ruled told) slots id me (64 * at_set) (λ _. 0) (λ _. Gives me)
gives told slots id at_set place new me is low s h wide at fits =
    let i : ℕ = 64 * at_set in
    let v : Hand = me.0 in
    let w : Hand = at_turn idle v in
    let f = h.each id v at in
    let old : FitsTurn told.sets s.words h.contents v.read (writing at_set place new new) =
    subst (FitsTurn told.sets s.words h.contents v.read) is f.turn in
    let inside : i < length s.words = (let x = h.wide in omega (arith, x, low)) in
    let claims : (q : ℕ) → claim q v ≡ cond (eqb at_set q) (suc (number_of v.numbers)) 0 =
    λ q. ap (λ (t : Turn). let n : ℕ = cond (is_at q t) (suc (number_of v.numbers)) 0 in n) is in
    let holds : (q : ℕ) → turns_held q v ≡ cond (eqb at_set q) 1 0 =
    λ q. ap (λ (t : Turn). let n : ℕ = cond (is_at q t) 1 0 in n) is in (
      w,
      keeps,
      tt,
      build told s h id v w at refl refl i 0 me.1 h.contents h.many h.ten
          (λ q lower. dite (ℕ_discrete at_set q)
          (λ same. (let one : turns_held q v ≡ 1 = holds q
          ∙ ap (λ (b : Bool). let n : ℕ = cond b 1 0 in n) (eq-eqb at_set q same) in
          let all = one_claim q s.views id v (h.once q) at one in
          let sum = h.turns q lower in
          let new_word : get_or (set s.words i 0) (turn_word q) 0 ≡ 0 =
          ap (λ x. get_or (set s.words i 0) (turn_word x) 0) (sym same) ∙ get_or-set_same s.words i 0 0 inside in
          omega (arith, all, sum, new_word)))
          (λ other. (let c : claim q v ≡ 0 = claims q
          ∙ ap (λ (b : Bool). let n : ℕ = cond b (suc (number_of v.numbers)) 0 in n) (ne_eqb at_set q other) in
          let keep : get_or (set s.words i 0) (turn_word q) 0 ≡ get_or s.words (turn_word q) 0 =
          get_or-set_other s.words i (turn_word q) 0 0 (λ e. other (omega (arith, e))) in omega (arith, c, keep))))
          (λ q. (let t = total-set (turns_held q) s.views id v w at in let o = h.once q in omega (arith, t, o)))
          (λ q p m lower lower' lower'' none.
          let t = total-set (λ hand. at_work q p hand.turn) s.views id v w at in
          let keep : get_or (set s.words i 0) (set_word q (10 * p + m)) 0 ≡ get_or s.words (set_word q (10 * p + m)) 0 =
          get_or-set_other s.words i (set_word q (10 * p + m)) 0 0
          (apart_turn at_set q (10 * p + m) (omega (arith, lower', lower''))) in
          let work : at_work q p v.turn ≡ cond (eqb at_set q && eqb place p) 1 0 = ap (at_work q p) is in
          let else_where : (at_set ≡ q → place ≡ p → ⊥)
          → get_or (get_or h.contents (content_place q p) []) m 0 ≡ get_or (set s.words i 0) (set_word q (10 * p + m)) 0
          = λ other. h.settled q p m lower lower' lower''
          (let z = no_work (eqb at_set q) (eqb place p) (λ a b. other (eq_of at_set q a) (eq_of place p b)) in
          omega (arith, t, none, work, z)) ∙ sym keep in
          dite (ℕ_discrete at_set q)
          (λ same. dite (ℕ_discrete place p)
          (λ same'. ap (λ x. get_or (get_or h.contents (content_place x p) []) m 0) (sym same)
          ∙ (ap (λ x. get_or (get_or h.contents (content_place at_set x) []) m 0) (sym same')
          ∙ (ap (λ c. get_or c m 0) old.3
          ∙ (old.4 m lower''
          ∙ (ap (λ x. get_or s.words (set_word at_set (10 * x + m)) 0) same'
          ∙ (ap (λ x. get_or s.words (set_word x (10 * p + m)) 0) same ∙ sym keep))))))
          (λ other. else_where (λ a b. other b)))
          (λ other. else_where (λ a b. other a)))
          (λ j u ne e. frame_turn told.sets 0 at_set s.words h.contents u (h.each j u e))
          record { seats = f.seats; gone = f.gone; live = tt; turn = tt }
          (subst (Keeps told.timeouts told.sets h.contents) (sym (notes_same s.views id v w at refl)) h.kept),
      refl,
    )
