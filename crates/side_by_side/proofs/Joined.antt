-- What holds of two shares, one behind the other, holds of both together, and the other way round.
use mathlib.Core.Path.{◌≡◌, refl, sym, subst, ap, ◌∙◌}
use mathlib.Core.List.{List, ◌++◌}
use mathlib.Core.Logic.{⊎_elim}
use Prim.Native.Nat.{ℕ, ◌+◌, ◌-◌}
use native.Mathlib.Omega.{arith}
use lib.ListN.{length, get_or}
use denote.Ref.{MutBor}
use denote.Param.Members.{Shared}
use Rattle.std.proofs.lemmas.List.{length-append, get_or_append_left, get_or-append_right}
use Rattle.std.proofs.lemmas.Bool.{cases_lt}
use Rattle.std.specs.Fork.{AcceptsAt, ChangesAt, ChangesEach}
use Rattle.side_by_side.specs.Shares.{AcceptsFrom, ChangesFrom}

moved : {X : Type 0} (R : ℕ → X → X → Type 0) {i j : ℕ} {x x' y y' : X} → i ≡ j → x ≡ x' → y ≡ y' → R i x y → R j x' y'
moved R {i} {j} {x} {x'} {y} {y'} a b c r = subst (λ k. R k x' y') a (subst (λ u. R i u y') b (subst (R i x) c r))

module _ {F T : Type 0} (g : Shared F (ℕ × (MutBor T × Unit {0})) ((Unit {0}) × (MutBor T × Unit {0}))) (f : F) where
  pub accepts_high : (base middle : ℕ) (all xs ys : List T) → all ≡ xs ++ ys → middle ≡ base + length xs → AcceptsFrom g f base all → AcceptsFrom g f middle ys
  accepts_high base middle all xs ys e m k i d l =
      let n = length xs in let back : n + i - n ≡ i = omega arith in
      subst (λ j. AcceptsAt g f j (get_or ys i d)) {x = base + (n + i)} (omega arith)
      (subst (AcceptsAt g f (base + (n + i))) (ap (λ zs. get_or zs (n + i) d) e ∙ (get_or-append_right xs ys n (n + i) d refl (omega arith) ∙ ap (λ j. get_or ys j d) back))
      (k (n + i) d (omega (arith, ap length e, length-append xs ys))))

  pub changes_both : (base middle : ℕ) (all xs ys xs' ys' : List T) → all ≡ xs ++ ys → middle ≡ base + length xs → ChangesFrom g f base xs xs' → ChangesFrom g f middle ys ys' → ChangesFrom g f base all (xs' ++ ys')
  changes_both base middle all xs ys xs' ys' e m a b =
      let n = length xs in
      record {
        len = omega (arith, ap length e, length-append xs ys, length-append xs' ys', a.len, b.len);
        each = λ k d h. ⊎_elim
            (λ p. moved (ChangesAt g f) refl (sym (ap (λ l. get_or l k d) e ∙ get_or_append_left xs ys d k p)) (sym (get_or_append_left xs' ys' d k (omega (arith, a.len)))) (a.each k d p))
            (λ p. moved (ChangesAt g f) {i = middle + (k - n)} (omega arith) (sym (ap (λ l. get_or l k d) e ∙ get_or-append_right xs ys n k d refl p)) (sym (get_or-append_right xs' ys' n k d a.len p))
            (b.each (k - n) d (omega (arith, ap length e, length-append xs ys))))
            (cases_lt k n);
      }

  -- The whole is the share that begins at place 0.
  pub changes_each : (xs ys : List T) → ChangesFrom g f 0 xs ys → ChangesEach g f xs ys
  changes_each xs ys a i d l = (refl, moved (ChangesAt g f) {i = 0 + i} (omega arith) refl refl (a.each i d l))
