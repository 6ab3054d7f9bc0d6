-- Elements dealt by the shares that their keys fall to.
use Rattle.std.proofs.Common.{◌≡◌, ◌≢◌, ℕ, zero, suc, ◌+◌, ◌<◌, ◌≤◌, Bool, cond, inl, inr, List, []}
use Rattle.std.proofs.Common.{◌∷◌, ◌++◌, Some, filter, refl, sym, ap, ◌∙◌, subst, arith, IsPermutation}
use Rattle.std.proofs.Math.Nat.{mod-lt}
use Rattle.std.proofs.lemmas.Bool.{eq-eqb}
use Rattle.std.proofs.lemmas.Bool.Decides.{eqb_tells}
use Rattle.std.proofs.lemmas.List.Sorted.{IsPermutation-refl, IsPermutation-sym, IsPermutation-trans}
use Rattle.std.proofs.lemmas.List.Sorted.{IsPermutation-cons}
use Rattle.std.proofs.lemmas.List.Sorted.{IsPermutation-middle, IsPermutation-append_right}
use Rattle.flow_key.specs.declared.key.FlowKey.{FlowKey}
use Rattle.flow_key.specs.Key.{set_number}
use Rattle.join_program.specs.Joined.{falls_to}
use Rattle.join_program.proofs.Keyed.{flat}

-- the share that a key falls to, of so many, counted from 1
abbrev pub number_of : ℕ → FlowKey → ℕ
number_of count key = set_number key count + 1

-- whether it is this share
abbrev pub falls : ℕ → ℕ → FlowKey → Bool
falls count number key = falls_to (Some (record { number = number; count = count })) key

-- each key falls to one of the shares from the first to the last
pub within : (count more : ℕ) → more ≡ count → 0 < count → (key : FlowKey)
    → (1 ≤ number_of count key) × (number_of count key < 1 + more)
within count more all some key =
    let low : set_number key count < count = mod-lt _ some in (omega arith, omega arith)

module _ {X : Type 0} (key_of : X → FlowKey) (count : ℕ) where
  abbrev at : X → ℕ
  at x = number_of count (key_of x)

  abbrev kept_at : ℕ → List X → List X
  kept_at number xs = filter (λ x. falls count number (key_of x)) xs

  -- the elements of so many shares from this one on, a list for each share
  abbrev pub dealt : ℕ → ℕ → List X → List (List X)
  dealt zero number xs = []
  dealt (suc more) number xs = kept_at number xs ∷ dealt more (suc number) xs

  left : (number : ℕ) (x : X) (xs : List X) → at x ≢ number → kept_at number (x ∷ xs) ≡ kept_at number xs
  left number x xs other = elim (eqb_tells (at x) number) [
    | inl same ↦ absurd (other same.1)
    | inr differ ↦ ap (λ b. cond b (x ∷ kept_at number xs) (kept_at number xs)) differ.0
  ]

  taken : (number : ℕ) (x : X) (xs : List X) → at x ≡ number → kept_at number (x ∷ xs) ≡ x ∷ kept_at number xs
  taken number x xs same =
      ap (λ b. cond b (x ∷ kept_at number xs) (kept_at number xs)) (eq-eqb (at x) number same)

  -- an element of an earlier share is in none of the lists
  none_more : (more number : ℕ) (x : X) (xs : List X) → at x < number
      → dealt more number (x ∷ xs) ≡ dealt more number xs
  none_more zero number x xs low = refl
  none_more (suc more) number x xs low =
      ap (λ l. l ∷ dealt more (suc number) (x ∷ xs)) (left number x xs (λ same. omega arith))
      ∙ ap (λ l. kept_at number xs ∷ l) (none_more more (suc number) x xs (omega arith))

  -- one of these shares is in one of them
  one_more : (more number : ℕ) (x : X) (xs : List X) → number ≤ at x → at x < number + more
      → IsPermutation (x ∷ flat (dealt more number xs)) (flat (dealt more number (x ∷ xs)))
  one_more zero number x xs low high = absurd (omega arith)
  one_more (suc more) number x xs low high = elim (eqb_tells (at x) number) [
    | inl same ↦ subst (λ l. IsPermutation (x ∷ flat (dealt (suc more) number xs)) l)
        (sym (ap (λ l. l ++ flat (dealt more (suc number) (x ∷ xs))) (taken number x xs same.1)
        ∙ ap (λ l. (x ∷ kept_at number xs) ++ flat l)
        (none_more more (suc number) x xs (let e = same.1 in omega arith))))
        (IsPermutation-refl (x ∷ flat (dealt (suc more) number xs)))
    | inr differ ↦ subst (λ l. IsPermutation (x ∷ flat (dealt (suc more) number xs)) l)
        (sym (ap (λ l. l ++ flat (dealt more (suc number) (x ∷ xs))) (left number x xs differ.1)))
        (IsPermutation-trans (x ∷ (kept_at number xs ++ flat (dealt more (suc number) xs)))
        (kept_at number xs ++ x ∷ flat (dealt more (suc number) xs))
        (kept_at number xs ++ flat (dealt more (suc number) (x ∷ xs)))
        (IsPermutation-sym (kept_at number xs ++ x ∷ flat (dealt more (suc number) xs))
        (x ∷ (kept_at number xs ++ flat (dealt more (suc number) xs)))
        (IsPermutation-middle (kept_at number xs) x (flat (dealt more (suc number) xs))))
        (IsPermutation-append_right (kept_at number xs) (x ∷ flat (dealt more (suc number) xs))
        (flat (dealt more (suc number) (x ∷ xs)))
        (one_more more (suc number) x xs (let other = differ.1 in above number (at x) low (λ e. other (sym e)))
        (omega arith))))
  ]
    where
      above : (n m : ℕ) → n ≤ m → (n ≡ m → ⊥) → suc n ≤ m
      above zero zero low other = absurd (other refl)
      above zero (suc m) low other = omega arith
      above (suc n) zero low other = absurd (omega arith)
      above (suc n) (suc m) low other =
          (let less = above n m (omega arith) (λ e. other (ap suc e)) in omega arith)

  nothing : (more number : ℕ) → flat (dealt more number []) ≡ []
  nothing zero number = refl
  nothing (suc more) number = nothing more (suc number)

  -- where each key falls to one of these shares, the lists together are all elements
  pub all_dealt : (more number : ℕ)
      → ((key : FlowKey) → (number ≤ number_of count key) × (number_of count key < number + more))
      → (xs : List X) → IsPermutation xs (flat (dealt more number xs))
  all_dealt more number within [] =
      subst (λ l. IsPermutation [] l) (sym (nothing more number)) (IsPermutation-refl [])
  all_dealt more number within (x ∷ xs) =
      IsPermutation-trans (x ∷ xs) (x ∷ flat (dealt more number xs)) (flat (dealt more number (x ∷ xs)))
      (IsPermutation-cons x xs (flat (dealt more number xs)) (all_dealt more number within xs))
      (one_more more number x xs (within (key_of x)).0 (within (key_of x)).1)
