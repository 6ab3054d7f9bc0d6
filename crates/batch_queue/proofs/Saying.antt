-- Each step keeps the rule of the word that no more batches come.
use Rattle.std.proofs.Common.{◌≡◌, ◌≢◌, ℕ, ◌+◌, ◌<◌, List, length, get_or, set, sym, refl, ap, subst, ⊎_elim, arith}
use Rattle.std.proofs.Common.{lt_of_not-le}
use Rattle.std.proofs.lemmas.List.{length-set, get_or-set_same}
use Rattle.std.proofs.lemmas.List.Sums.{sum_by_push}
use mathlib.Core.Logic.{dite}
use native.Mathlib.Decide.{dec_le}
use mathlib.Core.Option.{some, none}
use lib.ListN.{get_elem?}
use Rattle.atomic_table.specs.Table.{State, step, keeps, stepped, Allows, Splits, Joins}
use Rattle.atomic_table.proofs.Lists.{at_set, at_snoc}
use Rattle.batch_queue.specs.declared.heard.Heard.{Heard}
use Rattle.batch_queue.specs.Saying.{word_of, all_rights, Ends, Listener, other_heard, both_heard, HasSaid}
use Rattle.batch_queue.specs.Saying.{HasHeard}
use Rattle.batch_queue.proofs.Lists.{sum-set, sum-at}

abbrev right : Heard → ℕ
right v = v.right

-- a pass that was told nothing needs no word
told-none : (u : Heard) (m : ℕ) → other_heard ≡ u → 0 < u.told → m ≡ 1
told-none u m is told = absurd (let none = ap (λ (x : Heard). x.told) is in omega (arith, none, told))

-- all are told the truth where one view changes, and the word with it
truly-set : (s : State (Unit {0}) Heard) (id m : ℕ) (w : Heard) → Ends s → (word_of s ≡ 1 → m ≡ 1)
    → (0 < w.told → m ≡ 1)
    → (j : ℕ) (v : Heard) → get_elem? (set s.views id w) j ≡ some v → 0 < v.told → m ≡ 1
truly-set s id m w h stays mine j v at =
    ⊎_elim (λ (x : (j ≡ id) × (w ≡ v)). λ told. mine (subst (λ (u : Heard). 0 < u.told) (sym x.1) told))
    (λ (x : (j ≢ id) × (get_elem? s.views j ≡ some v)). λ told. stays (h.truly j v x.1 told))
    (at_set s.views id j w v at)

-- the rule after a step of one pass, whose word becomes m
after : (s : State (Unit {0}) Heard) (id m : ℕ) (v w : Heard) (c : List (ℕ × Unit {0})) → Ends s
    → get_elem? s.views id ≡ some v → (word_of s ≡ 1 → m ≡ 1) → (0 < w.told → m ≡ 1)
    → m + w.right ≡ word_of s + v.right
    → Ends (stepped s 0 m id c w keeps)
after s id m v w c h at stays mine same =
    let inside : 0 < length s.words = let l = h.single in omega (arith, l) in
    let is : m ≡ get_or (set s.words 0 m) 0 0 = sym (get_or-set_same s.words 0 m 0 inside) in record {
      single = rw length-set h.single;
      once = subst (λ (k : ℕ). k + all_rights (set s.views id w) ≡ 1) is
          (let sum = sum-set right s.views id v w at in let o = h.once in omega (arith, sum, o, same));
      truly = subst (λ (k : ℕ). (j : ℕ) (u : Heard) → get_elem? (set s.views id w) j ≡ some u → 0 < u.told → k ≡ 1) is
          (truly-set s id m w h stays mine);
    }

-- it is said
pub says : (slots id : ℕ) (me : Listener) → 0 < me.0.right
    → Allows Ends slots id me 0 (λ _. 1) (λ _. HasSaid (step slots 0 1 0 none) me 1)
says slots id me may s h wide at fits =
    let v : Heard = me.0 in
    let said : Heard = record { right = 0; told = 1 } in
    let sum = sum-at right s.views id v at in (
      said,
      keeps,
      tt,
      after s id 1 v said me.1 h at (λ _. refl) (λ _. refl) (let o = h.once in omega (arith, sum, o, may)),
      refl,
    )

-- the word is looked at
pub hears : (slots id : ℕ) (me : Listener)
    → Allows Ends slots id me 0 (λ n. n) (HasHeard (step slots 0 0 0 none) me)
hears slots id me s h wide at fits =
    let v : Heard = me.0 in
    let n : ℕ = word_of s in
    let w : Heard = record { right = v.right; told = n } in
    let sum = sum-at right s.views id v at in
    let o = h.once in (
      w,
      keeps,
      tt,
      after s id n v w me.1 h at (λ is. is) (λ told. omega (arith, o, told)) refl,
      (refl, omega (arith, sum, o), h.truly id v at),
    )

-- one more pass
pub parts : (id : ℕ) (v : Heard) → Splits Ends id v v other_heard
parts id v s h at = let vs : List Heard = set s.views id v in record {
  single = h.single;
  once = (let a = sum-set right s.views id v v at in let b = sum_by_push right vs other_heard in let o = h.once in
      omega (arith, a, b, o));
  truly = λ j u at'. ⊎_elim (λ e. truly-set s id (word_of s) v h (λ is. is) (h.truly id v at) j u e)
      (λ is. told-none u (word_of s) is) (at_snoc vs other_heard u j at');
}

-- two passes become one
pub joins : (id : ℕ) (v : Heard) (other : ℕ) (u : Heard)
    → Joins Ends id v other u (both_heard v u) other_heard
joins id v other u s h at apart at' =
    let both : Heard = both_heard v u in
    let vs : List Heard = set s.views id both in
    let was : get_elem? s.views other ≡ some u =
    ⊎_elim (λ x. absurd (apart x.0)) (λ x. x.1) (at_set s.views id other both u at') in
    let mine : 0 < v.told + u.told → word_of s ≡ 1 =
    λ told. dite (dec_le 1 v.told) (λ a. h.truly id v at a)
    (λ a. h.truly other u was (let b = lt_of_not-le a in omega (arith, b, told))) in
    record {
      single = h.single;
      once = (let a = sum-set right s.views id v both at in let b = sum-set right vs other u other_heard at' in
          let o = h.once in omega (arith, a, b, o));
      truly = λ j x e. ⊎_elim (λ (y : (j ≡ other) × (other_heard ≡ x)). told-none x (word_of s) y.1)
          (λ (y : (j ≢ other) × (get_elem? vs j ≡ some x)).
          truly-set s id (word_of s) both h (λ is. is) mine j x y.1)
          (at_set vs other j other_heard x e);
    }
