-- Fragments by the shares of time that have them.
use Rattle.std.proofs.Common.{◌≡◌, ◌≢◌, ℕ, zero, suc, ◌+◌, ◌<◌, ◌≤◌, Bool, true, false, cond, List, [], ◌∷◌, ◌++◌}
use Rattle.std.proofs.Common.{length, get_or, refl, ap, ◌∙◌, subst, arith, append-nil, All, IsPermutation, Vec, Global, filter}
use Rattle.std.specs.Prelude.{nat_lt, ◌==◌}
use Rattle.std.proofs.lemmas.Bool.{eq-eqb, ne_eqb, lt-ltb, le-ltb}
use Rattle.std.proofs.lemmas.Bool.Decides.{nat_tests}
use Rattle.std.proofs.lemmas.List.Elements.{filter-append}
use Rattle.std.proofs.lemmas.List.Sorted.{IsPermutation-refl, IsPermutation-trans, IsPermutation-append_right}
use Rattle.flow_parts.specs.declared.fragment.Fragment.{Fragment}
use Rattle.record_ledger.specs.declared.place.Place.{Place}
use Rattle.record_ledger.specs.Buckets.{share_number, share_of, first_shares, SharedFrom}
use Rattle.record_ledger.proofs.Dealt.{behind}
use Rattle.record_ledger.proofs.Filtered.{kept_none}

-- the first end behind a time is that of its share
pub share_is : (ends : List ℕ) (n time : ℕ) → n ≤ length ends → ((k : ℕ) → k < n → get_or ends k 0 ≤ time)
    → (n < length ends → time < get_or ends n 0) → n ≡ share_number ends time
share_is [] n time within over before = omega arith
share_is (end ∷ ends) zero time within over before = grind (arith, nat_tests, before (omega arith))
share_is (end ∷ ends) (suc n) time within over before =
    let rest = share_is ends n time (omega arith) (λ k l. over (suc k) (omega arith)) (λ l. before (omega arith)) in
    let first : end ≤ time = over 0 (omega arith) in
    grind (arith, nat_tests)

pub share_within : (ends : List ℕ) (time : ℕ) → share_number ends time ≤ length ends
share_within [] time = omega arith
share_within (end ∷ ends) time = let rest = share_within ends time in grind (arith, nat_tests)

abbrev one_by : Bool → ℕ
one_by b = cond b 1 0

module _ {X : Type 0} where
  pub kept_all : (p : X → Bool) (xs : List X) → ((x : X) → p x ≡ true) → filter p xs ≡ xs
  kept_all p [] h = refl
  kept_all p (x ∷ xs) h = ap (λ b. cond b (x ∷ filter p xs) (filter p xs)) (h x) ∙ ap (λ l. x ∷ l) (kept_all p xs h)

  -- what one of two tests keeps, where no element passes both
  pub kept_by_either : (p q r : X → Bool) (xs : List X)
      → ((x : X) → one_by (r x) ≡ one_by (p x) + one_by (q x))
      → IsPermutation (filter r xs) (filter p xs ++ filter q xs)
  kept_by_either p q r [] h = IsPermutation-refl []
  kept_by_either p q r (x ∷ xs) h = step (p x) (q x) (r x) (h x) (kept_by_either p q r xs h)
    where
      step : (a b c : Bool) → one_by c ≡ one_by a + one_by b → IsPermutation (filter r xs) (filter p xs ++ filter q xs)
          → IsPermutation (cond c (x ∷ filter r xs) (filter r xs))
          (cond a (x ∷ filter p xs) (filter p xs) ++ cond b (x ∷ filter q xs) (filter q xs))
      step true true true e k = absurd (omega (arith, e))
      step true true false e k = absurd (omega (arith, e))
      step true false true e k =
          IsPermutation-append_right (x ∷ []) (filter r xs) (filter p xs ++ filter q xs) k
      step true false false e k = absurd (omega (arith, e))
      step false true true e k = IsPermutation-trans (x ∷ filter r xs) (x ∷ (filter p xs ++ filter q xs))
          (filter p xs ++ x ∷ filter q xs)
          (IsPermutation-append_right (x ∷ []) (filter r xs) (filter p xs ++ filter q xs) k)
          (behind x (filter p xs) (filter q xs))
      step false true false e k = absurd (omega (arith, e))
      step false false true e k = absurd (omega (arith, e))
      step false false false e k = k

module _ (ends : List ℕ) where
  -- one more fragment, of the share or of another one
  module _ (share : ℕ) (before : List Fragment) (f : Fragment) where
    one_kept : share_of ends share (before ++ f ∷ []) ≡ share_of ends share before
        ++ cond (share_number ends f.last == share) (f ∷ []) []
    one_kept = filter-append (λ (g : Fragment). share_number ends g.last == share) before (f ∷ [])

    pub share_more : share_number ends f.last ≡ share
        → share_of ends share (before ++ f ∷ []) ≡ share_of ends share before ++ f ∷ []
    share_more is = one_kept ∙ ap (λ b. share_of ends share before ++ cond b (f ∷ []) [])
        (eq-eqb (share_number ends f.last) share is)

    pub share_same : share_number ends f.last ≢ share
        → share_of ends share (before ++ f ∷ []) ≡ share_of ends share before
    share_same off = one_kept ∙ ap (λ b. share_of ends share before ++ cond b (f ∷ []) [])
        (ne_eqb (share_number ends f.last) share off) ∙ append-nil (share_of ends share before)

  module _ (xs : List Fragment) where
    pub no_shares : first_shares ends 0 xs ≡ []
    no_shares = kept_none (λ (f : Fragment). nat_lt (share_number ends f.last) 0) xs
        (λ k d l. le-ltb (share_number ends (get_or xs k d).last) 0 (omega arith))

    -- the fragments of one more share
    pub share_added : (n : ℕ) → IsPermutation (first_shares ends (n + 1) xs)
        (first_shares ends n xs ++ share_of ends n xs)
    share_added n = kept_by_either (λ (f : Fragment). nat_lt (share_number ends f.last) n)
        (λ (f : Fragment). share_number ends f.last == n)
        (λ (f : Fragment). nat_lt (share_number ends f.last) (n + 1)) xs
        (λ f. one_more (share_number ends f.last) n)
      where
        one_more : (s n : ℕ) → one_by (nat_lt s (n + 1)) ≡ one_by (nat_lt s n) + one_by (s == n)
        one_more s n = grind (arith, nat_tests)

    pub all_shares : first_shares ends (length ends + 1) xs ≡ xs
    all_shares = kept_all (λ (f : Fragment). nat_lt (share_number ends f.last) (length ends + 1)) xs
        (λ f. lt-ltb (share_number ends f.last) (length ends + 1) (let low = share_within ends f.last in omega arith))

  -- the list of one more share
  pub shared_more : (i : ℕ) (lists : List (Vec Place Global)) (list : Vec Place Global) → SharedFrom ends i lists
      → All (λ (place : Place). share_number ends place.last ≡ i + length lists) list.items
      → SharedFrom ends i (lists ++ list ∷ [])
  shared_more i [] list h all =
      (subst (λ n. All (λ (place : Place). share_number ends place.last ≡ n) list.items) (omega arith) all, tt)
  shared_more i (l ∷ lists) list h all = (
    h.0,
    shared_more (suc i) lists list h.1
        (subst (λ n. All (λ (place : Place). share_number ends place.last ≡ n) list.items) (omega arith) all),
  )
