-- A list of lists with one of them written anew.
use Rattle.std.proofs.Common.{◌≡◌, ◌≢◌, ℕ, zero, suc, ◌+◌, List, [], ◌∷◌, ◌++◌, flat_map, sum_by, set, sym, refl, ap}
use Rattle.std.proofs.Common.{◌∙◌, ◌<◌, length, get_or, subst, arith, append_assoc, All, IsPermutation}
use Rattle.std.proofs.lemmas.List.{append-nil}
use Rattle.std.proofs.lemmas.List.Concat.{flat_map-append, flat_map-cons}
use Rattle.std.proofs.lemmas.List.Sorted.{IsPermutation-refl, IsPermutation-trans, IsPermutation-append_left}
use Rattle.std.proofs.lemmas.List.Sorted.{IsPermutation-append_right, IsPermutation-append_comm}
use Rattle.std.proofs.lemmas.List.Elements.{All-head, All-tail, All-nil, All-cons}
use Rattle.std.proofs.lemmas.List.Sums.{sum_by-cons, sum_by_push}
use mathlib.Core.Option.{some, some-injective, some-ne-none}
use lib.ListN.{get_elem?}

module _ {B : Type 0} where
  pub same : (xs ys : List B) → xs ≡ ys → IsPermutation xs ys
  same xs ys e = subst (λ l. IsPermutation xs l) e (IsPermutation-refl xs)

  -- the first two of three pieces change places
  pub moved : (a b c : List B) → IsPermutation (a ++ (b ++ c)) (b ++ (a ++ c))
  moved a b c = subst (λ l. IsPermutation l (b ++ (a ++ c))) (append_assoc a b c)
      (subst (λ l. IsPermutation ((a ++ b) ++ c) l) (append_assoc b a c)
      (IsPermutation-append_left c (a ++ b) (b ++ a) (IsPermutation-append_comm a b)))

-- a list without its element at a place
abbrev pub others : {A : Type 0} → List A → ℕ → List A
others [] i = []
others (x ∷ xs) zero = xs
others (x ∷ xs) (suc i) = x ∷ others xs i

module _ {A B : Type 0} (f : A → List B) where
  -- the pieces of a list are those of one element and those of the others
  pub apart : (l : List A) (i : ℕ) (a : A) → get_elem? l i ≡ some a
      → IsPermutation (flat_map f l) (f a ++ flat_map f (others l i))
  apart [] i a e = absurd (some-ne-none a (sym e))
  apart (x ∷ xs) zero a e = same _ _ (flat_map-cons f x xs ∙ ap (λ y. f y ++ flat_map f xs) (some-injective x a e))
  apart (x ∷ xs) (suc i) a e =
      subst (λ l. IsPermutation l (f a ++ flat_map f (x ∷ others xs i))) (sym (flat_map-cons f x xs))
      (subst (λ l. IsPermutation (f x ++ flat_map f xs) (f a ++ l)) (sym (flat_map-cons f x (others xs i)))
      (IsPermutation-trans (f x ++ flat_map f xs) (f x ++ (f a ++ flat_map f (others xs i)))
      (f a ++ (f x ++ flat_map f (others xs i)))
      (IsPermutation-append_right (f x) (flat_map f xs) (f a ++ flat_map f (others xs i)) (apart xs i a e))
      (moved (f x) (f a) (flat_map f (others xs i)))))

-- an element that is written anew stands at its place, and the others are the same
pub here : {A : Type 0} (l : List A) (i : ℕ) (a b : A) → get_elem? l i ≡ some a → get_elem? (set l i b) i ≡ some b
here [] i a b e = absurd (some-ne-none a (sym e))
here (x ∷ xs) zero a b e = refl
here (x ∷ xs) (suc i) a b e = here xs i a b e

pub others_set : {A : Type 0} (l : List A) (i : ℕ) (b : A) → others (set l i b) i ≡ others l i
others_set [] i b = refl
others_set (x ∷ xs) zero b = refl
others_set (x ∷ xs) (suc i) b = ap (λ l. x ∷ l) (others_set xs i b)

module _ {A B : Type 0} (f : A → List B) where
  pub anew : (l : List A) (i : ℕ) (a b : A) → get_elem? l i ≡ some a
      → IsPermutation (flat_map f (set l i b)) (f b ++ flat_map f (others l i))
  anew l i a b e = subst (λ o. IsPermutation (flat_map f (set l i b)) (f b ++ flat_map f o)) (others_set l i b)
      (apart f (set l i b) i b (here l i a b e))

  pub snoc : (l : List A) (a : A) → flat_map f (l ++ a ∷ []) ≡ flat_map f l ++ f a
  snoc l a = flat_map-append f l (a ∷ []) ∙ ap (λ z. flat_map f l ++ z) (flat_map-cons f a [] ∙ append-nil (f a))

-- sums likewise
module _ {A : Type 0} (f : A → ℕ) where
  pub sum_anew : (l : List A) (i : ℕ) (a b : A) → get_elem? l i ≡ some a → sum_by f (set l i b) + f a ≡ sum_by f l + f b
  sum_anew [] i a b e = absurd (some-ne-none a (sym e))
  sum_anew (x ∷ xs) zero a b e = let h : f x ≡ f a = ap f (some-injective x a e) in let l = sum_by-cons f x xs in
      let r = sum_by-cons f b xs in omega (arith, h, l, r)
  sum_anew (x ∷ xs) (suc i) a b e = let h = sum_anew xs i a b e in let l = sum_by-cons f x xs in
      let r = sum_by-cons f x (set xs i b) in omega (arith, h, l, r)

  pub sum_snoc : (l : List A) (a : A) → sum_by f (l ++ a ∷ []) ≡ sum_by f l + f a
  sum_snoc xs a = sum_by_push f xs a

module _ {A : Type 0} (P : A → Type 0) where
  pub all_at : (l : List A) (i : ℕ) (a : A) → All P l → get_elem? l i ≡ some a → P a
  all_at [] i a h e = absurd (some-ne-none a (sym e))
  all_at (x ∷ xs) zero a h e = subst P (some-injective x a e) (All-head P x xs h)
  all_at (x ∷ xs) (suc i) a h e = all_at xs i a (All-tail P x xs h) e

  pub all_from : (l : List A) → ((i : ℕ) (a : A) → get_elem? l i ≡ some a → P a) → All P l
  all_from [] h = All-nil P
  all_from (x ∷ xs) h = All-cons P x xs (h 0 x refl) (all_from xs (λ i a e. h (suc i) a e))

  -- a fact of all elements but one
  pub all_others : (l : List A) (i : ℕ) → ((j : ℕ) (a : A) → j ≢ i → get_elem? l j ≡ some a → P a) → All P (others l i)
  all_others [] i h = All-nil P
  all_others (x ∷ xs) zero h = all_from xs (λ j a e. h (suc j) a (λ s. omega arith) e)
  all_others (x ∷ xs) (suc i) h = All-cons P x (others xs i) (h 0 x (λ s. omega arith) refl)
      (all_others xs i (λ j a ne e. h (suc j) a (λ s. ne (omega (arith, s))) e))

-- an element at another place is as it was
pub elsewhere : {A : Type 0} (l : List A) (i j : ℕ) (a b : A) → j ≢ i → get_elem? l j ≡ some a
    → get_elem? (set l i b) j ≡ some a
elsewhere [] i j a b ne e = e
elsewhere (x ∷ xs) zero zero a b ne e = absurd (ne refl)
elsewhere (x ∷ xs) zero (suc j) a b ne e = e
elsewhere (x ∷ xs) (suc i) zero a b ne e = e
elsewhere (x ∷ xs) (suc i) (suc j) a b ne e = elsewhere xs i j a b (λ s. ne (ap suc s)) e

-- an element below the length stands at its place
pub element_at : {A : Type 0} (l : List A) (i : ℕ) (d : A) → i < length l → get_elem? l i ≡ some (get_or l i d)
element_at [] i d low = absurd (omega (arith, low))
element_at (x ∷ xs) zero d low = refl
element_at (x ∷ xs) (suc i) d low = element_at xs i d (omega (arith, low))

-- where an element stands at a place, the place is below the length
pub below : {A : Type 0} (l : List A) (i : ℕ) (a : A) → get_elem? l i ≡ some a → i < length l
below [] i a e = absurd (some-ne-none a (sym e))
below (x ∷ xs) zero a e = omega arith
below (x ∷ xs) (suc i) a e = let h = below xs i a e in omega (arith, h)
