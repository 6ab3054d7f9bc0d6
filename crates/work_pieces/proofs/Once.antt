-- Numbers that stand in a list once each.
use Rattle.std.proofs.Common.{◌≡◌, ℕ, zero, suc, ◌+◌, ◌<◌, eqb, cond, Bool, List, [], ◌∷◌, ◌++◌, sym, refl, ap, ◌∙◌}
use Rattle.std.proofs.Common.{subst, arith, append_assoc, append-nil, eq-eqb, ne_eqb}
use Rattle.std.proofs.lemmas.Grind.{common_steps, flat_map-append}
use Rattle.std.proofs.lemmas.List.Sorted.{IsPermutation-refl, IsPermutation-trans, IsPermutation-append_comm}
use Rattle.std.proofs.lemmas.List.Sorted.{IsPermutation-append_left, IsPermutation-append_right}
use Rattle.std.specs.Prelude.{flat_map, IsPermutation}
use mathlib.Core.Logic.{dite}
use native.Mathlib.Decide.{ℕ_discrete}
use Rattle.work_pieces.specs.Dealing.{times, once_below, EachOnce}
use Rattle.work_pieces.proofs.Totals.{times-append}

-- the numbers below n, in order
abbrev pub upto : ℕ → List ℕ
upto zero = []
upto (suc n) = upto n ++ n ∷ []

pub times-last : (n : ℕ) (xs : List ℕ) → 0 < times n (xs ++ n ∷ [])
times-last n [] = grind (arith, common_steps)
times-last n (x ∷ xs) = let h = times-last n xs in omega (arith, h)

found : (x : ℕ) (ks : List ℕ) → 0 < times x ks → (l : List ℕ) × (r : List ℕ) × (ks ≡ l ++ x ∷ r)
found x [] h = absurd (omega arith)
found x (k ∷ ks) h = dite (ℕ_discrete k x) (λ e. ([], ks, ap (λ y. y ∷ ks) e))
    (λ ne. let z : cond (eqb k x) 1 0 ≡ 0 = ap (λ (b : Bool). let n : ℕ = cond b 1 0 in n) (ne_eqb k x ne) in
    let r = found x ks (omega (arith, h, z)) in (k ∷ r.0, r.1, ap (λ l. k ∷ l) r.2))

empty : (ks : List ℕ) → ((x : ℕ) → times x ks ≡ 0) → ks ≡ []
empty [] h = refl
empty (k ∷ ks) h =
    absurd (let e = h k in
    let z : cond (eqb k k) 1 0 ≡ 1 = ap (λ (b : Bool). let n : ℕ = cond b 1 0 in n) (eq-eqb k k refl) in
    omega (arith, e, z))

once-zero : (x : ℕ) → once_below x 0 ≡ 0
once-zero x = grind (arith, common_steps)

once-suc : (x n : ℕ) → once_below x (n + 1) ≡ once_below x n + cond (eqb n x) 1 0
once-suc x n = grind (arith, common_steps)

once-here : (n : ℕ) → once_below n (n + 1) ≡ 1
once-here n = grind (arith, common_steps)

-- what is taken of each of them, together, is what is taken of each number below n, in some order
pub once-together : {A : Type 0} (f : ℕ → List A) (n : ℕ) (ks : List ℕ) → EachOnce n ks
    → IsPermutation (flat_map f (upto n)) (flat_map f ks)
once-together f zero ks h =
    subst (λ (l : List ℕ). IsPermutation [] (flat_map f l)) (sym (empty ks (λ x. h x ∙ once-zero x)))
    (IsPermutation-refl [])
once-together f (suc n) ks h =
    let one : suc n ≡ n + 1 = omega arith in
    let each : (x : ℕ) → times x ks ≡ once_below x (n + 1) = λ x. h x ∙ ap (once_below x) one in
    let at = found n ks (let e = each n in let o = once-here n in omega (arith, e, o)) in
    let a : List ℕ = at.0 in
    let b : List ℕ = at.1 in
    let rest : EachOnce n (a ++ b) = λ x. (let e = each x in let o = once-suc x n in let t = times-append x a b in
    let u = times-append x a (n ∷ b) in let w = ap (times x) at.2 in omega (arith, e, o, t, u, w)) in
    let F = flat_map f in
    let all = F (upto n) ++ f n in
    let last : IsPermutation all (F a ++ (F b ++ f n)) =
    subst (λ l. IsPermutation all l) (ap (λ l. l ++ f n) (flat_map-append f a b) ∙ append_assoc (F a) (F b) (f n))
    (IsPermutation-append_left (f n) (F (upto n)) (F (a ++ b)) (once-together f n (a ++ b) rest)) in
    subst (λ l. IsPermutation l (F ks))
    (sym (flat_map-append f (upto n) (n ∷ []) ∙ ap (λ l. F (upto n) ++ l) (append-nil (f n))))
    (subst (λ l. IsPermutation all l) (sym (ap F at.2 ∙ flat_map-append f a (n ∷ b)))
    (IsPermutation-trans _ _ _ last
    (IsPermutation-append_right (F a) (F b ++ f n) (f n ++ F b) (IsPermutation-append_comm (F b) (f n)))))
