-- Lists that are made of the views of all passes, and batches in rising order.
use Rattle.std.proofs.Common.{◌≡◌, ℕ, zero, suc, ◌+◌, ◌<◌, ◌≤◌, List, [], ◌∷◌, ◌++◌, length, set, sym, refl, ap, ◌∙◌}
use Rattle.std.proofs.Common.{subst, arith, append_assoc, append-nil}
use Rattle.std.specs.Prelude.{flat_map, sum_by, All, IsPermutation}
use Rattle.std.proofs.lemmas.List.{length-append}
use Rattle.std.proofs.lemmas.List.Sums.{sum_by-cons}
use Rattle.std.proofs.lemmas.List.Elements.{All-nil, All-cons, All-head, All-tail, All-push}
use Rattle.std.proofs.lemmas.List.Sorted.{IsPermutation-append_comm, IsPermutation-append_right}
use Rattle.std.proofs.Math.Seq.{get_or-append_seam}
use mathlib.Core.Option.{some, some-injective, some-ne-none}
use lib.ListN.{get_elem?}
use Rattle.batch_queue.specs.declared.batch.Batch.{Batch}
use Rattle.batch_queue.specs.Batches.{IsBefore, AreRising}

-- sums, where one element changes
module _ {X : Type 0} (f : X → ℕ) where
  pub sum-set : (xs : List X) (i : ℕ) (x y : X) → get_elem? xs i ≡ some x
      → sum_by f (set xs i y) + f x ≡ sum_by f xs + f y
  sum-set [] i x y at = absurd (some-ne-none x (sym at))
  sum-set (u ∷ us) zero x y at =
      let is : f u ≡ f x = ap f (some-injective u x at) in
      omega (arith, sum_by-cons f u us, sum_by-cons f y us, is)
  sum-set (u ∷ us) (suc i) x y at =
      let rest = sum-set us i x y at in
      omega (arith, sum_by-cons f u us, sum_by-cons f u (set us i y), rest)

  pub sum-at : (xs : List X) (i : ℕ) (x : X) → get_elem? xs i ≡ some x → f x ≤ sum_by f xs
  sum-at [] i x at = absurd (some-ne-none x (sym at))
  sum-at (u ∷ us) zero x at = let is : f u ≡ f x = ap f (some-injective u x at) in omega (arith, sum_by-cons f u us, is)
  sum-at (u ∷ us) (suc i) x at = let rest = sum-at us i x at in omega (arith, sum_by-cons f u us, rest)

-- what holds of two lists, holds of each
module _ {Y : Type 0} (P : Y → Type 0) where
  front : (xs ys : List Y) → All P (xs ++ ys) → All P xs
  front [] ys all = All-nil P
  front (x ∷ xs) ys all = All-cons P x xs (All-head P x (xs ++ ys) all) (front xs ys (All-tail P x (xs ++ ys) all))

  back : (xs ys : List Y) → All P (xs ++ ys) → All P ys
  back [] ys all = all
  back (x ∷ xs) ys all = back xs ys (All-tail P x (xs ++ ys) all)

-- lists one behind the other, where one element changes
module _ {X Y : Type 0} (f : X → List Y) where
  pub flat-same : (xs : List X) (i : ℕ) (x y : X) → get_elem? xs i ≡ some x → f y ≡ f x
      → flat_map f (set xs i y) ≡ flat_map f xs
  flat-same [] i x y at same = absurd (some-ne-none x (sym at))
  flat-same (u ∷ us) zero x y at same = ap (λ l. l ++ flat_map f us) (same ∙ sym (ap f (some-injective u x at)))
  flat-same (u ∷ us) (suc i) x y at same = ap (λ l. f u ++ l) (flat-same us i x y at same)

  pub flat-last : (xs : List X) (y : X) → f y ≡ [] → flat_map f (xs ++ y ∷ []) ≡ flat_map f xs
  flat-last [] y none = append-nil (f y) ∙ none
  flat-last (u ∷ us) y none = ap (λ l. f u ++ l) (flat-last us y none)

  pub flat-more : (xs : List X) (i : ℕ) (x y : X) (more : List Y) → get_elem? xs i ≡ some x → f y ≡ f x ++ more
      → IsPermutation (flat_map f xs ++ more) (flat_map f (set xs i y))
  flat-more [] i x y more at grown = absurd (some-ne-none x (sym at))
  flat-more (u ∷ us) zero x y more at grown =
      let rest = flat_map f us in
      let is : f y ≡ f u ++ more = grown ∙ ap (λ a. f a ++ more) (sym (some-injective u x at)) in
      subst (λ l. IsPermutation ((f u ++ rest) ++ more) (l ++ rest)) (sym is)
      (subst (λ l. IsPermutation l ((f u ++ more) ++ rest)) (sym (append_assoc (f u) rest more))
      (subst (λ l. IsPermutation (f u ++ (rest ++ more)) l) (sym (append_assoc (f u) more rest))
      (IsPermutation-append_right (f u) (rest ++ more) (more ++ rest) (IsPermutation-append_comm rest more))))
  flat-more (u ∷ us) (suc i) x y more at grown =
      subst (λ l. IsPermutation l (f u ++ flat_map f (set us i y))) (sym (append_assoc (f u) (flat_map f us) more))
      (IsPermutation-append_right (f u) (flat_map f us ++ more) (flat_map f (set us i y))
      (flat-more us i x y more at grown))

  pub flat-less : (xs : List X) (i : ℕ) (x y : X) → get_elem? xs i ≡ some x → f y ≡ []
      → IsPermutation (flat_map f xs) (flat_map f (set xs i y) ++ f x)
  flat-less [] i x y at none = absurd (some-ne-none x (sym at))
  flat-less (u ∷ us) zero x y at none =
      let rest = flat_map f us in
      subst (λ l. IsPermutation (f u ++ rest) ((l ++ rest) ++ f x)) (sym none)
      (subst (λ a. IsPermutation (f u ++ rest) (rest ++ f a)) (some-injective u x at)
      (IsPermutation-append_comm (f u) rest))
  flat-less (u ∷ us) (suc i) x y at none =
      subst (λ l. IsPermutation (f u ++ flat_map f us) l) (sym (append_assoc (f u) (flat_map f (set us i y)) (f x)))
      (IsPermutation-append_right (f u) (flat_map f us) (flat_map f (set us i y) ++ f x) (flat-less us i x y at none))

  pub flat-at : (P : Y → Type 0) (xs : List X) (i : ℕ) (x : X) → get_elem? xs i ≡ some x → All P (flat_map f xs)
      → All P (f x)
  flat-at P [] i x at all = absurd (some-ne-none x (sym at))
  flat-at P (u ∷ us) zero x at all = subst (λ a. All P (f a)) (some-injective u x at)
      (front P (f u) (flat_map f us) all)
  flat-at P (u ∷ us) (suc i) x at all = flat-at P us i x at (back P (f u) (flat_map f us) all)

  -- where the elements of no weight give nothing, and one has all the weight, it gives all
  module _ (g : X → ℕ) where
    flat-none : (xs : List X) → ((i : ℕ) (x : X) → get_elem? xs i ≡ some x → g x ≡ 0 → f x ≡ []) → sum_by g xs ≡ 0
        → flat_map f xs ≡ []
    flat-none [] idle none = refl
    flat-none (u ∷ us) idle none =
        let sum = sum_by-cons g u us in
        ap (λ l. l ++ flat_map f us) (idle 0 u refl (omega (arith, sum, none)))
        ∙ flat-none us (λ i x at. idle (suc i) x at) (omega (arith, sum, none))

    pub flat-only : (xs : List X) (i : ℕ) (x : X) → get_elem? xs i ≡ some x
        → ((j : ℕ) (y : X) → get_elem? xs j ≡ some y → g y ≡ 0 → f y ≡ [])
        → sum_by g xs ≡ g x → flat_map f xs ≡ f x
    flat-only [] i x at idle all = absurd (some-ne-none x (sym at))
    flat-only (u ∷ us) zero x at idle all =
        let sum = sum_by-cons g u us in
        let is : u ≡ x = some-injective u x at in
        let same : g u ≡ g x = ap g is in
        ap (λ l. f u ++ l) (flat-none us (λ j y at'. idle (suc j) y at') (omega (arith, sum, all, same)))
        ∙ append-nil (f u) ∙ ap f is
    flat-only (u ∷ us) (suc i) x at idle all =
        let sum = sum_by-cons g u us in
        let le = sum-at g us i x at in
        ap (λ l. l ++ flat_map f us) (idle 0 u refl (omega (arith, sum, all, le)))
        ∙ flat-only us i x at (λ j y at'. idle (suc j) y at') (omega (arith, sum, all, le))

-- batches in rising order
pub rising-last : (xs : List Batch) (x : Batch) → AreRising xs → All (λ b. IsBefore b x) xs → AreRising (xs ++ x ∷ [])
rising-last [] x rising before = (All-nil (IsBefore x), tt)
rising-last (y ∷ ys) x rising before = (
  All-push (IsBefore y) ys x rising.0 (All-head (λ b. IsBefore b x) y ys before),
  rising-last ys x rising.1
      (All-tail (λ b. IsBefore b x) y ys before),
)

pub rising-before : (xs : List Batch) (x : Batch) (ys : List Batch) → AreRising (xs ++ x ∷ ys)
    → All (λ b. IsBefore b x) xs
rising-before [] x ys rising = All-nil (λ b. IsBefore b x)
rising-before (z ∷ zs) x ys rising =
    let there : length zs < length (zs ++ x ∷ ys) = let long = length-append zs (x ∷ ys) in omega (arith, long) in
    All-cons (λ b. IsBefore b x) z zs (subst (IsBefore z) (get_or-append_seam zs x ys x) (rising.0 (length zs) x there))
    (rising-before zs x ys rising.1)
