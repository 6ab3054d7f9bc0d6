-- Sums over the views of all passes, and how often a number stands in a list.
use Rattle.std.proofs.Common.{◌≡◌, ℕ, zero, suc, ◌+◌, ◌<◌, ◌≤◌, min, eqb, cond, List, [], ◌∷◌, ◌++◌, set, sym, refl, ap}
use Rattle.std.proofs.Common.{arith}
use Rattle.std.proofs.lemmas.Grind.{common_steps}
use mathlib.Core.Option.{some, some-injective, some-ne-none}
use lib.ListN.{get_elem?}
use Rattle.work_pieces.specs.declared.views.Hand.{Hand}
use Rattle.work_pieces.specs.Dealing.{times, once_below, total}

pub times-append : (x : ℕ) (xs ys : List ℕ) → times x (xs ++ ys) ≡ times x xs + times x ys
times-append x [] ys = omega arith
times-append x (y ∷ xs) ys = let h = times-append x xs ys in omega (arith, h)

pub total-set : (f : Hand → ℕ) (vs : List Hand) (id : ℕ) (v w : Hand) → get_elem? vs id ≡ some v
    → total f (set vs id w) + f v ≡ total f vs + f w
total-set f [] id v w e = absurd (some-ne-none v (sym e))
total-set f (u ∷ us) zero v w e = let h : f u ≡ f v = ap f (some-injective u v e) in omega (arith, h)
total-set f (u ∷ us) (suc id) v w e = let h = total-set f us id v w e in omega (arith, h)

pub total-snoc : (f : Hand → ℕ) (vs : List Hand) (w : Hand) → total f (vs ++ w ∷ []) ≡ total f vs + f w
total-snoc f [] w = omega arith
total-snoc f (u ∷ us) w = let h = total-snoc f us w in omega (arith, h)

pub total-at : (f : Hand → ℕ) (vs : List Hand) (id : ℕ) (v : Hand) → get_elem? vs id ≡ some v → f v ≤ total f vs
total-at f [] id v e = absurd (some-ne-none v (sym e))
total-at f (u ∷ us) zero v e = let h : f u ≡ f v = ap f (some-injective u v e) in omega (arith, h)
total-at f (u ∷ us) (suc id) v e = let h = total-at f us id v e in omega (arith, h)

pub total-le : (f g : Hand → ℕ) (vs : List Hand) → ((j : ℕ) (v : Hand) → get_elem? vs j ≡ some v → f v ≤ g v)
    → total f vs ≤ total g vs
total-le f g [] le = omega arith
total-le f g (u ∷ us) le = let h = total-le f g us (λ j v e. le (suc j) v e) in let m = le 0 u refl in
    omega (arith, h, m)

total-zero : (f g : Hand → ℕ) (vs : List Hand) → ((j : ℕ) (v : Hand) → get_elem? vs j ≡ some v → g v ≡ 0 → f v ≡ 0)
    → total g vs ≡ 0 → total f vs ≡ 0
total-zero f g [] idle e = refl
total-zero f g (u ∷ us) idle e = let h = total-zero f g us (λ j v at. idle (suc j) v at) (omega (arith, e)) in
    let m = idle 0 u refl (omega (arith, e)) in omega (arith, h, m)

-- f of all is f of v, where v has all of g, and f is 0 where g is
pub total-only : (f g : Hand → ℕ) (vs : List Hand) (id : ℕ) (v : Hand) → get_elem? vs id ≡ some v
    → ((j : ℕ) (u : Hand) → get_elem? vs j ≡ some u → g u ≡ 0 → f u ≡ 0) → total g vs ≡ g v → total f vs ≡ f v
total-only f g [] id v e idle all = absurd (some-ne-none v (sym e))
total-only f g (u ∷ us) zero v e idle all = let is : f u ≡ f v = ap f (some-injective u v e) in
    let is' : g u ≡ g v = ap g (some-injective u v e) in
    let h = total-zero f g us (λ j w at. idle (suc j) w at) (omega (arith, all, is')) in omega (arith, h, is)
total-only f g (u ∷ us) (suc id) v e idle all = let le = total-at g us id v e in
    let none : g u ≡ 0 = omega (arith, all, le) in let m = idle 0 u refl none in
    let h = total-only f g us id v e (λ j w at. idle (suc j) w at) (omega (arith, all, none)) in omega (arith, h, m)

pub once-more : (x n pieces : ℕ) → n < pieces
    → once_below x (min n pieces) + cond (eqb n x) 1 0 ≡ once_below x (min (n + 1) pieces)
once-more x n pieces lt = grind (arith, common_steps)

pub once-over : (x n pieces : ℕ) → pieces ≤ n → once_below x (min n pieces) ≡ once_below x (min (n + 1) pieces)
once-over x n pieces le = grind (arith, common_steps)

pub once-all : (x n pieces : ℕ) → pieces ≤ n → once_below x (min n pieces) ≡ once_below x pieces
once-all x n pieces le = grind (arith, common_steps)

pub once-some : (x n pieces : ℕ) → 0 < once_below x (min n pieces) → x < n
once-some x n pieces lt = grind (arith, common_steps)

pub once-none : (x pieces : ℕ) → 0 ≡ once_below x (min 0 pieces)
once-none x pieces = grind (arith, common_steps)
