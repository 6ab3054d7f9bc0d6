-- The retired slots that aren't kept.
use Rattle.std.proofs.Common.{◌≡◌, ℕ, ◌<◌, ◌+◌, ◌≤◌, zero, suc, Bool, true, false, not, ◌&&◌, ◌||◌, List, [], ◌∷◌}
use Rattle.std.proofs.Common.{length, get_or, map, refl, sym, ◌∙◌, ap, arith, inl, inr}
use Rattle.std.specs.List.{list_any, list_all, range_with_len}
use Rattle.std.proofs.lemmas.Bool.{false≢true, cases_Bool, and_from}
use Rattle.std.proofs.lemmas.List.{length-map}
use Rattle.pebr_core.specs.declared.kinds.Retired.{Retired}
use Rattle.pebr_core.specs.declared.kinds.Retired.TheVariants as retire
use Rattle.pebr_core.specs.State.{has, is_retired}
use Rattle.pebr_core.specs.Steps.{each_below}
use Rattle.pebr_core.specs.Marks.{given_marks}
use Rattle.pebr_core.proofs.Marks.{get_or-map_default, has-without, length-without, each_below-at}

pub given_at : (rs : List Retired) (kept : List Bool) (slot : ℕ)
    → has (given_marks rs kept) slot ≡ (is_retired (get_or rs slot retire.No) && not (has kept slot))
given_at rs kept slot = has-without (map is_retired rs) kept slot
    ∙ ap (λ b. b && not (has kept slot)) (get_or-map_default is_retired rs slot retire.No)

pub given_length : (rs : List Retired) (kept : List Bool) → length (given_marks rs kept) ≡ length rs
given_length rs kept = length-without (map is_retired rs) kept ∙ length-map rs is_retired

-- a test that some entry passes, or none

pub any_none : {A : Type 0} (p : A → Bool) (xs : List A) (d : A) → ((k : ℕ) → k < length xs → p (get_or xs k d) ≡ false)
    → list_any p xs ≡ false
any_none p [] d h = refl
any_none p (x ∷ xs) d h = ap (λ b. b || list_any p xs) (h 0 (omega arith))
    ∙ any_none p xs d (λ k lt. h (suc k) (omega arith))

pub any_some : {A : Type 0} (p : A → Bool) (xs : List A) (d : A) (i : ℕ) → i < length xs → p (get_or xs i d) ≡ true
    → list_any p xs ≡ true
any_some p [] d i inside h = absurd (omega arith)
any_some p (x ∷ xs) d zero inside h = ap (λ b. b || list_any p xs) h
any_some p (x ∷ xs) d (suc i) inside h = ap (λ b. p x || b) (any_some p xs d i (omega arith) h) ∙ or_true (p x)
  where
    or_true : (b : Bool) → (b || true) ≡ true
    or_true true = refl
    or_true false = refl

pub all_pass : {A : Type 0} (p : A → Bool) (xs : List A) (d : A) → ((k : ℕ) → k < length xs → p (get_or xs k d) ≡ true)
    → list_all p xs ≡ true
all_pass p [] d h = refl
all_pass p (x ∷ xs) d h = ap (λ b. b && list_all p xs) (h 0 (omega arith))
    ∙ all_pass p xs d (λ k lt. h (suc k) (omega arith))

pub one_fails : {A : Type 0} (p : A → Bool) (xs : List A) (d : A) (i : ℕ) → i < length xs → p (get_or xs i d) ≡ false
    → list_all p xs ≡ false
one_fails p [] d i inside h = absurd (omega arith)
one_fails p (x ∷ xs) d zero inside h = ap (λ b. b && list_all p xs) h
one_fails p (x ∷ xs) d (suc i) inside h = ap (λ b. p x && b) (one_fails p xs d i (omega arith) h) ∙ and_false (p x)
  where
    and_false : (b : Bool) → (b && false) ≡ false
    and_false true = refl
    and_false false = refl

-- the same of each number below a bound

pub each_passes : (test : ℕ → Bool) (bound : ℕ) → ((k : ℕ) → k < bound → test k ≡ true) → each_below bound test ≡ true
each_passes test bound h = from 0 bound (λ k low high. h k (omega arith))
  where
    from : (a m : ℕ) → ((k : ℕ) → a ≤ k → k < a + m → test k ≡ true) → list_all test (range_with_len a m) ≡ true
    from a zero h' = refl
    from a (suc m) h' = and_from (test a) (list_all test (range_with_len (a + 1) m)) (h' a (omega arith) (omega arith))
        (from (a + 1) m (λ k low high. h' k (omega arith) (omega arith)))

pub each_fails : (test : ℕ → Bool) (bound i : ℕ) → i < bound → test i ≡ false → each_below bound test ≡ false
each_fails test bound i inside h = elim (cases_Bool (each_below bound test)) as (λ _. each_below bound test ≡ false) [
  | inl all ↦ absurd (false≢true (sym h ∙ each_below-at test bound i all inside))
  | inr fails ↦ fails
]
