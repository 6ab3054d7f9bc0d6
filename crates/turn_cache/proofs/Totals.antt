-- Numbers of all seats, added up.
use Rattle.std.proofs.Common.{◌≡◌, ◌≢◌, ℕ, zero, suc, ◌+◌, ◌<◌, ◌≤◌, Bool, true, false, eqb, cond, List, [], ◌∷◌, ◌++◌}
use Rattle.std.proofs.Common.{set, sym, refl, ap, ◌∙◌, arith, eq-eqb, ne_eqb}
use Rattle.std.proofs.lemmas.Grind.{common_steps}
use mathlib.Core.Logic.{dite}
use native.Mathlib.Decide.{ℕ_discrete}
use mathlib.Core.Option.{some, some-injective, some-ne-none}
use lib.ListN.{get_elem?}
use Rattle.turn_cache.specs.Hands.{Hand, times, once_below, total}

pub once_few : (x n : ℕ) → once_below x n ≤ 1
once_few x n = grind (arith, common_steps)

pub once_in : (x n : ℕ) → 0 < once_below x n → x < n
once_in x n h = grind (arith, common_steps)

pub times_here : (k : ℕ) (ks : List ℕ) → 0 < times k (k ∷ ks)
times_here k ks = let z : cond (eqb k k) 1 0 ≡ 1 = ap (λ (b : Bool). let n : ℕ = cond b 1 0 in n) (eq-eqb k k refl) in
    omega (arith, z)

-- two numbers are equal, or the test says that they aren't
pub eq_of : (a b : ℕ) → eqb a b ≡ true → a ≡ b
eq_of a b h = dite (ℕ_discrete a b) (λ e. e) (λ ne. absurd (let z : false ≡ true = sym (ne_eqb a b ne) ∙ h in cc))

pub ne_of : (a b : ℕ) → eqb a b ≡ false → a ≢ b
ne_of a b h e = let z : false ≡ true = sym h ∙ eq-eqb a b e in cc

pub times-append : (k : ℕ) (xs ys : List ℕ) → times k (xs ++ ys) ≡ times k xs + times k ys
times-append k [] ys = omega arith
times-append k (x ∷ xs) ys = let h = times-append k xs ys in omega (arith, h)

module _ (f : Hand → ℕ) where
  pub total-set : (vs : List Hand) (id : ℕ) (v w : Hand) → get_elem? vs id ≡ some v
      → total f (set vs id w) + f v ≡ total f vs + f w
  total-set [] id v w e = absurd (some-ne-none v (sym e))
  total-set (u ∷ us) zero v w e = let h : f u ≡ f v = ap f (some-injective u v e) in omega (arith, h)
  total-set (u ∷ us) (suc id) v w e = let h = total-set us id v w e in omega (arith, h)

  pub total-at : (vs : List Hand) (id : ℕ) (v : Hand) → get_elem? vs id ≡ some v → f v ≤ total f vs
  total-at [] id v e = absurd (some-ne-none v (sym e))
  total-at (u ∷ us) zero v e = let h : f u ≡ f v = ap f (some-injective u v e) in omega (arith, h)
  total-at (u ∷ us) (suc id) v e = let h = total-at us id v e in omega (arith, h)

  pub total-two : (vs : List Hand) (i j : ℕ) (u v : Hand) → j ≢ i → get_elem? vs i ≡ some u → get_elem? vs j ≡ some v
      → f u + f v ≤ total f vs
  total-two [] i j u v ne e e' = absurd (some-ne-none u (sym e))
  total-two (x ∷ xs) zero zero u v ne e e' = absurd (ne refl)
  total-two (x ∷ xs) zero (suc j) u v ne e e' = let h : f x ≡ f u = ap f (some-injective x u e) in
      let t = total-at xs j v e' in omega (arith, h, t)
  total-two (x ∷ xs) (suc i) zero u v ne e e' = let h : f x ≡ f v = ap f (some-injective x v e') in
      let t = total-at xs i u e in omega (arith, h, t)
  total-two (x ∷ xs) (suc i) (suc j) u v ne e e' = let t = total-two xs i j u v (λ s. ne (ap suc s)) e e' in
      omega (arith, t)

  pub total-snoc : (vs : List Hand) (w : Hand) → total f (vs ++ w ∷ []) ≡ total f vs + f w
  total-snoc [] w = omega arith
  total-snoc (u ∷ us) w = let h = total-snoc us w in omega (arith, h)

  -- where the sum is above 0, some one is
  pub some_one : (vs : List Hand) → 0 < total f vs → (j : ℕ) × (v : Hand) × (get_elem? vs j ≡ some v) × (0 < f v)
  some_one [] h = absurd (omega (arith, h))
  some_one (u ∷ us) h = dite (ℕ_discrete (f u) 0)
      (λ z. let r = some_one us (omega (arith, h, z)) in (suc r.0, r.1, r.2, r.3))
      (λ nz. (0, u, refl, omega (arith, nz)))

  pub none_all : (vs : List Hand) → ((j : ℕ) (v : Hand) → get_elem? vs j ≡ some v → f v ≡ 0) → total f vs ≡ 0
  none_all [] h = refl
  none_all (u ∷ us) h = let a = h 0 u refl in let b = none_all us (λ j v e. h (suc j) v e) in omega (arith, a, b)
