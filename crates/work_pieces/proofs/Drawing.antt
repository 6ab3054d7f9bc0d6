-- The steps of a pass keep the rule.
use Rattle.std.proofs.Common.{replicate, ◌≡◌, ◌≢◌, ℕ, ◌+◌, ◌%◌, ◌^◌, ◌<◌, ◌≤◌, min, List, [], ◌∷◌, ◌++◌, get_or, set}
use Rattle.std.proofs.Common.{sym, refl, ap, ◌∙◌, subst, ⊎_elim, arith, mod-eq_of_lt, lt_of_not-le, le_refl}
use Rattle.std.proofs.lemmas.List.{length-set, get_or-set_same}
use mathlib.Core.Logic.{dite}
use native.Mathlib.Decide.{dec_le}
use mathlib.Core.Option.{some, none, some-ne-none}
use lib.ListN.{get_elem?}
use Rattle.atomic_table.specs.Table.{State, step, Act, keeps, Valid, carried_after, stepped, Allows, Splits, Joins}
use Rattle.atomic_table.specs.Table.{opening}
use Rattle.atomic_table.proofs.Lists.{at_set, at_snoc}
use Rattle.work_pieces.specs.declared.views.Hand.{Hand}
use Rattle.work_pieces.specs.declared.views.Plan.{Plan}
use Rattle.work_pieces.specs.Dealing.{draw_word, word_count, times, once_below, total, hand, Fits, Dealt, Sat, HasDrawn}
use Rattle.work_pieces.specs.Dealing.{HasTold, left_of, right_of, both_of}
use Rattle.work_pieces.proofs.Totals.{times-append, total-set, total-snoc, total-at, total-le, total-only, once-more}
use Rattle.work_pieces.proofs.Totals.{once-over, once-all, once-some, once-none}

abbrev word_of : State (Unit {0}) Hand → ℕ
word_of s = get_or s.words draw_word 0

-- the word is far below its type's end
near : (plan : Plan) (s : State (Unit {0}) Hand) → Dealt plan s → word_of s + 1 < 2 ^ 64
near plan s h = let le = total-le (λ v. v.done) (λ v. v.seats) s.views (λ j v e. (h.each j v e).few) in
    omega (arith, h.bound, h.seats, h.small, le)

later : (pieces all n m : ℕ) (v : Hand) → n ≤ m → Fits pieces all n v → Fits pieces all m v
later pieces all n m v le f =
    record {
      all_is = f.all_is;
      pieces_is = f.pieces_is;
      few = f.few;
      over =
          λ had. (let h = f.over had in omega (arith, h, le));
      idle = f.idle;
    }

-- what the pass drew stands below the word
below : (plan : Plan) (s : State (Unit {0}) Hand) (id : ℕ) (v : Hand) → Dealt plan s → get_elem? s.views id ≡ some v
    → (x : ℕ) → 0 < times x v.drawn → x < word_of s
below plan s id v h at x had = let le = total-at (λ u. times x u.drawn) s.views id v at in
    once-some x (word_of s) plan.pieces (let o = h.once x in omega (arith, le, had, o))

over_of : {pieces all word : ℕ} {v w : Hand} → 0 < v.done + w.done → Fits pieces all word v → Fits pieces all word w
    → pieces ≤ word
over_of {v = v} {w = w} had f g = dite (dec_le 1 v.done) (λ a. f.over a)
    (λ a. g.over (let b = lt_of_not-le a in omega (arith, b, had)))

-- where one view changes and the word with it, each view fits
each-set : (plan : Plan) (s : State (Unit {0}) Hand) (id m : ℕ) (w : Hand) → Dealt plan s → word_of s ≤ m
    → Fits plan.pieces plan.all m w
    → (j : ℕ) (v : Hand) → get_elem? (set s.views id w) j ≡ some v → Fits plan.pieces plan.all m v
each-set plan s id m w h le mine j v e =
    ⊎_elim (λ (x : (j ≡ id) × (w ≡ v)). subst (Fits plan.pieces plan.all m) x.1 mine)
    (λ (x : (j ≢ id) × (get_elem? s.views j ≡ some v)). later plan.pieces plan.all (word_of s) m v le (h.each j v x.1))
    (at_set s.views id j w v e)

-- the rule after a step of one pass, whose word becomes m
after : (plan : Plan) (s : State (Unit {0}) Hand) (id m : ℕ) (v w : Hand) (c : List (ℕ × Unit {0})) → Dealt plan s
    → get_elem? s.views id ≡ some v → word_of s ≤ m → Fits plan.pieces plan.all m w
    → w.seats ≡ v.seats → m ≤ plan.pieces + total (λ u. u.done) (set s.views id w)
    → ((x : ℕ) → once_below x (min (word_of s) plan.pieces) + times x w.drawn
    ≡ once_below x (min m plan.pieces) + times x v.drawn)
    → Dealt plan (stepped s draw_word m id c w keeps)
after plan s id m v w c h at le mine same within drawn =
    let word : get_or (set s.words draw_word m) draw_word 0 ≡ m =
    get_or-set_same s.words draw_word m 0 (omega (arith, h.wide)) in
    let is : m ≡ get_or (set s.words draw_word m) draw_word 0 = sym word in record {
      small = h.small;
      wide = rw length-set h.wide;
      seats = (let t = total-set (λ u. u.seats) s.views id v w at in let p = h.seats in omega (arith, t, p, same));
      once = λ x. (let t = total-set (λ u. times x u.drawn) s.views id v w at in let o = h.once x in let d = drawn x in
          subst (λ (k : ℕ). total (λ u. times x u.drawn) (set s.views id w) ≡ once_below x (min k plan.pieces)) is
          (omega (arith, t, o, d)));
      bound = subst (λ (k : ℕ). k ≤ plan.pieces + total (λ u. u.done) (set s.views id w)) is within;
      each = subst (λ (k : ℕ). (j : ℕ) (u : Hand) → get_elem? (set s.views id w) j ≡ some u
          → Fits plan.pieces plan.all k u) is (each-set plan s id m w h le mine);
    }

pub draws : (plan : Plan) (slots id : ℕ) (me : Sat) → me.0.seats ≡ 1 → me.0.done ≡ 0
    → Allows (Dealt plan) slots id me draw_word (λ n. (n + 1) % 2 ^ 64) (HasDrawn (step slots draw_word 1 0 none) me)
draws plan slots id me single fresh s h wide at fits =
    let n : ℕ = word_of s in let v : Hand = me.0 in let f = h.each id v at in
    let pieces_is : v.pieces ≡ plan.pieces = f.pieces_is (omega (arith, single)) in
    let next : (n + 1) % 2 ^ 64 ≡ n + 1 = mod-eq_of_lt (near plan s h) in
    subst (λ (m : ℕ). (w : Hand) × (a : Act (Unit {0})) × Valid s.homes me.1 a
    × Dealt plan (stepped s draw_word m id me.1 w a)
    × HasDrawn (step slots draw_word 1 0 none) me n (w, carried_after me.1 a)) (sym next)
    (dite (dec_le plan.pieces n)
    (λ (over : plan.pieces ≤ n). let w : Hand = hand v.all v.pieces v.seats (v.done + 1) v.drawn in (
      w,
      keeps,
      tt,
      after plan s id (n + 1) v w me.1 h at (omega arith)
          record {
            all_is = f.all_is;
            pieces_is = f.pieces_is;
            few = omega (arith, single, fresh);
            over =
                λ _. omega (arith, over);
            idle = f.idle;
          }
          refl (let t = total-set (λ u. u.done) s.views id v w at in omega (arith, t, h.bound))
          (λ x. ap (λ (k : ℕ). k + times x v.drawn) (once-over x n plan.pieces over)),
      (below plan s id v h at, (λ lt. absurd (omega (arith, lt, over, pieces_is))), λ _. refl),
    ))
    (λ under. let lt : n < plan.pieces = lt_of_not-le under in
    let w : Hand = hand v.all v.pieces v.seats v.done (v.drawn ++ n ∷ []) in (
      w,
      keeps,
      tt,
      after plan s id (n + 1) v w me.1 h at (omega arith)
          record {
            all_is = f.all_is;
            pieces_is = f.pieces_is;
            few = f.few;
            over =
                λ had. absurd (omega (arith, had, fresh));
            idle = λ none. absurd (omega (arith, none, single));
          }
          refl (omega (arith, lt))
          (λ x. (let t = times-append x v.drawn (n ∷ []) in let o = once-more x n plan.pieces lt in
          omega (arith, t, o))),
      (below plan s id v h at, (λ _. refl), λ over. absurd (omega (arith, lt, over, pieces_is))),
    )))

pub tells : (plan : Plan) (slots id : ℕ) (me : Sat)
    → Allows (Dealt plan) slots id me draw_word (λ n. n) (HasTold (step slots draw_word 0 0 none) me)
tells plan slots id me s h wide at fits = let n : ℕ = word_of s in let v : Hand = me.0 in let f = h.each id v at in (
  v,
  keeps,
  tt,
  after plan s id n v v me.1 h at (le_refl n) f refl
      (let t = total-set (λ u. u.done) s.views id v v at in omega (arith, t, h.bound)) (λ x. refl),
  (
    refl,
    λ whole had x. (
        let some_seat : 0 < v.seats = omega (arith, had, f.few) in
        let all : total (λ u. u.seats) s.views ≡ v.seats = h.seats ∙ sym (f.all_is some_seat) ∙ sym whole in
        let mine = total-only (λ u. times x u.drawn) (λ u. u.seats) s.views id v at
        (λ j u e none. ap (times x) ((h.each j u e).idle none)) all in
        sym mine ∙ h.once x ∙ once-all x n plan.pieces (f.over had) ∙ ap (once_below x) (sym (f.pieces_is some_seat))),
  ),
)

-- all views fit where one is cut in two
pub cuts : (plan : Plan) (id : ℕ) (v : Hand) → 1 < v.seats → v.done ≡ 0
    → Splits (Dealt plan) id v (left_of v) (right_of v)
cuts plan id v many fresh s h at = let f = h.each id v at in let vs : List Hand = set s.views id (left_of v) in
    let sum : (g : Hand → ℕ) → total g (vs ++ right_of v ∷ []) + g v
    ≡ total g s.views + g (left_of v) + g (right_of v) =
    λ g. (let a = total-set g s.views id v (left_of v) at in let b = total-snoc g vs (right_of v) in
    omega (arith, a, b)) in
    record {
      small = h.small;
      wide = h.wide;
      seats = (let t = sum (λ u. u.seats) in let p = h.seats in omega (arith, t, p, many));
      once = λ x. (let t = sum (λ u. times x u.drawn) in let o = h.once x in omega (arith, t, o));
      bound = (let t = sum (λ u. u.done) in omega (arith, t, h.bound));
      each = λ j u e. ⊎_elim
          (λ e'. each-set plan s id (word_of s) (left_of v) h (le_refl (word_of s)) record {
            all_is = λ _. f.all_is (omega (arith, many));
            pieces_is = λ _. f.pieces_is (omega (arith, many));
            few = omega (arith, fresh);
            over = f.over;
            idle = λ none. absurd (omega (arith, none, many));
          } j u e')
          (λ (is : right_of v ≡ u). subst (Fits plan.pieces plan.all (word_of s)) is record {
            all_is = λ _. f.all_is (omega (arith, many));
            pieces_is = λ _. f.pieces_is (omega (arith, many));
            few = omega arith;
            over = λ none. absurd (omega (arith, none));
            idle = λ _. refl;
          })
          (at_snoc vs (right_of v) u j e);
    }

spent : Hand
spent = hand 0 0 0 0 []

pub joins : (plan : Plan) (id : ℕ) (v : Hand) (other : ℕ) (w : Hand) → 0 < v.seats
    → Joins (Dealt plan) id v other w (both_of v w) (hand 0 0 0 0 [])
joins plan id v other w many s h at two at' = let f = h.each id v at in
    let vs : List Hand = set s.views id (both_of v w) in
    let was : get_elem? s.views other ≡ some w =
    ⊎_elim (λ x. absurd (two x.0)) (λ x. x.1) (at_set s.views id other (both_of v w) w at') in
    let f' = h.each other w was in
    let sum : (g : Hand → ℕ) → total g (set vs other (hand 0 0 0 0 [])) + g w + g v
    ≡ total g s.views + g (both_of v w) + g (hand 0 0 0 0 []) =
    λ g. (let a = total-set g s.views id v (both_of v w) at in let b = total-set g vs other w (hand 0 0 0 0 []) at' in
    omega (arith, a, b)) in
    let gone : Fits plan.pieces plan.all (word_of s) (hand 0 0 0 0 []) =
    record {
      all_is = λ none. absurd (omega (arith, none));
      pieces_is = λ none. absurd (omega (arith, none));
      few =
          omega arith;
      over = λ none. absurd (omega (arith, none));
      idle = λ _. refl;
    } in
    let both : Fits plan.pieces plan.all (word_of s) (both_of v w) =
    record {
      all_is = λ _. f.all_is many;
      pieces_is = λ _. f.pieces_is many;
      few = omega (arith, f.few, f'.few);
      over =
          λ had. over_of had f f';
      idle = λ none. absurd (omega (arith, none, many));
    } in
    record {
      small = h.small;
      wide = h.wide;
      seats = (let t = sum (λ u. u.seats) in let p = h.seats in omega (arith, t, p));
      once = λ x. (let t = sum (λ u. times x u.drawn) in let o = h.once x in let a = times-append x v.drawn w.drawn in
          omega (arith, t, o, a));
      bound = (let t = sum (λ u. u.done) in omega (arith, t, h.bound));
      each = λ j u e. ⊎_elim
          (λ (x : (j ≡ other) × (hand 0 0 0 0 [] ≡ u)). subst (Fits plan.pieces plan.all (word_of s)) x.1 gone)
          (λ (x : (j ≢ other) × (get_elem? vs j ≡ some u)). each-set plan s id (word_of s) (both_of v w) h
          (le_refl (word_of s)) both j u x.1) (at_set vs other j (hand 0 0 0 0 []) u e);
    }

pub opens : (plan : Plan) → plan.pieces + plan.all < 2 ^ 63
    → Dealt plan (opening (replicate word_count 0) [] (hand plan.all plan.pieces plan.all 0 []))
opens plan small = record {
  small = small;
  wide = refl;
  seats = omega arith;
  once = λ x. once-none x plan.pieces;
  bound = omega arith;
  each = λ j v e. ⊎_elim (λ (x : get_elem? [] j ≡ some v). absurd (some-ne-none v (sym x)))
      (λ (is : hand plan.all plan.pieces plan.all 0 [] ≡ v). subst (Fits plan.pieces plan.all 0) is record {
        all_is = λ _. refl;
        pieces_is = λ _. refl;
        few = omega arith;
        over = λ none. absurd (omega (arith, none));
        idle = λ _. refl;
      })
      (at_snoc [] (hand plan.all plan.pieces plan.all 0 []) v j e);
}
