-- A slot that stands at most once, and only below a bound.
use Rattle.std.proofs.Common.{◌≡◌, ℕ, ◌+◌, ◌<◌, ◌≤◌, ◌⊎◌, inl, inr, Bool, true, false, not, ◌&&◌, ◌||◌, cond, refl, sym}
use Rattle.std.proofs.Common.{ap, ◌∙◌, arith, eqb}
use Rattle.std.specs.Prelude.{nat_lt}
use Rattle.std.proofs.lemmas.Bool.{cases_lt}
use Rattle.std.proofs.lemmas.Bool.Decides.{nat_tests}
use Rattle.pebr_slots.proofs.Listing.{none_if, in_some, in_none}

at_most_one : (b : Bool) → ◌≤◌ (cond b 1 0) 1
at_most_one true = omega arith
at_most_one false = omega arith

pub few_of : (slots slot n : ℕ) → n ≤ cond (nat_lt slot slots) 1 0 → n ≤ 1
few_of slots slot n h = let m = at_most_one (nat_lt slot slots) in omega (arith, h, m)

past_end : (slots slot : ℕ) → slots ≤ slot → nat_lt slot slots ≡ false
past_end slots slot h = grind (arith, nat_tests)

pub within : (slots slot n : ℕ) → n ≤ cond (nat_lt slot slots) 1 0 → 0 < n → slot < slots
within slots slot n h some = pick (cases_lt slot slots)
  where
    pick : ((slot < slots) ⊎ (slots ≤ slot)) → slot < slots
    pick (inl near) = near
    pick (inr far) = absurd (let z = none_if (past_end slots slot far) in omega (arith, h, z, some))

pub one_of_few : (n : ℕ) → n ≤ 1 → cond (nat_lt 0 n) 1 0 ≡ n
one_of_few n h = pick (cases_lt 0 n)
  where
    pick : ((0 < n) ⊎ (n ≤ 0)) → cond (nat_lt 0 n) 1 0 ≡ n
    pick (inl some) = ap (λ b. cond b 1 0) (in_some n some) ∙ (omega (arith, h, some))
    pick (inr none) = ap (λ b. cond b 1 0) (in_none n (omega (arith, none))) ∙ (omega (arith, none))

-- what a Give makes of how often a slot stands in lists: fresh, without a tag, given, with a tag

pub given_once : (f a g b : ℕ) (kept : Bool) → f + a + b ≤ 1 → cond kept 1 0 + g ≡ b
    → nat_lt 0 (f + a + g) ≡ (nat_lt 0 f || (nat_lt 0 (a + b) && not kept))
given_once f a g b true few parts = in_none (f + a + g) (omega (arith, few, parts))
    ∙ sym (or_and_false (nat_lt 0 f) (nat_lt 0 (a + b)) (in_none f (omega (arith, few, parts))))
  where
    or_and_false : (x y : Bool) → x ≡ false → (x || (y && false)) ≡ false
    or_and_false x true e = ap (λ b. b || false) e
    or_and_false x false e = ap (λ b. b || false) e
given_once f a g b false few parts = pick (cases_lt 0 f)
  where
    and_true : (y : Bool) → (y && true) ≡ y
    and_true true = refl
    and_true false = refl

    same : g ≡ b
    same = omega (arith, parts)

    pick : ((0 < f) ⊎ (f ≤ 0)) → nat_lt 0 (f + a + g) ≡ (nat_lt 0 f || (nat_lt 0 (a + b) && true))
    pick (inl some) = in_some (f + a + g) (omega (arith, some))
        ∙ ap (λ x. x || (nat_lt 0 (a + b) && true)) (sym (in_some f some))
    pick (inr none) = ap (nat_lt 0) (let e : f + a + g ≡ a + b = omega (arith, none, same) in e)
        ∙ (sym (and_true (nat_lt 0 (a + b))) ∙ ap (λ x. x || (nat_lt 0 (a + b) && true))
        (sym (in_none f (omega (arith, none)))))

pub given_count : (a g b : ℕ) (kept : Bool) → a + b ≤ 1 → cond kept 1 0 + g ≡ b
    → cond (nat_lt 0 (a + b) && not kept) 1 0 ≡ a + g
given_count a g b true few parts = none_if (and_false (nat_lt 0 (a + b))) ∙ omega (arith, few, parts)
  where
    and_false : (y : Bool) → (y && false) ≡ false
    and_false true = refl
    and_false false = refl
given_count a g b false few parts = ap (λ c. cond c 1 0) (and_true (nat_lt 0 (a + b)))
    ∙ (one_of_few (a + b) few ∙ omega (arith, parts))
  where
    and_true : (y : Bool) → (y && true) ≡ y
    and_true true = refl
    and_true false = refl

pub not_zero : (n : ℕ) → eqb n 0 ≡ false → 0 < n
not_zero n h = grind (arith, nat_tests)
