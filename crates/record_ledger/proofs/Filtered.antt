-- What tests keep of lists, and lists that are one where they are in order.
use Rattle.std.proofs.Common.{◌≡◌, Bool, true, false, cond, inl, inr, List, [], ◌∷◌, ◌++◌, length, get_or, drop}
use Rattle.std.proofs.Common.{reverse, refl, sym, ap, ◌∙◌, subst, arith, append-nil, All, Contains, IsPermutation}
use Rattle.std.proofs.Common.{filter}
use Rattle.std.proofs.Common.{flat_map}
use Rattle.std.specs.Cmp.{IsTotalOrder}
use Rattle.std.specs.Ordering.{is_lt, is_eq, ordering_reverse}
use Rattle.std.specs.declared.cmp.Ordering.{Ordering}
use Rattle.std.specs.declared.cmp.Ordering.TheVariants.{Less, Equal, Greater}
use Rattle.std.proofs.lemmas.Cmp.{tied_itself}
use Rattle.std.proofs.lemmas.List.{reverse-append}
use Rattle.std.proofs.lemmas.List.Elements.{All-contains, All-tail, All-weaker, filter-append, filter_passes}
use Rattle.std.proofs.lemmas.List.Sorted.{length_permutation}
use Rattle.packet_accept.proofs.Permuted.{flat_map-permutation}
use Rattle.record_ledger.specs.Steps.{Rises}
use Rattle.record_ledger.proofs.Keyed.{tie_from_test, cons_cases, contains_head, filter_contains}
use Rattle.record_ledger.proofs.Keyed.{contains_filter}

module _ {X : Type 0} (p : X → Bool) where
  filter_flat : (xs : List X) → flat_map (λ (x : X). cond (p x) (x ∷ []) []) xs ≡ filter p xs
  filter_flat [] = refl
  filter_flat (x ∷ xs) = put (p x) ∙ ap (λ l. cond (p x) (x ∷ l) l) (filter_flat xs)
    where
      put : (b : Bool) → cond b (x ∷ []) [] ++ flat_map (λ (y : X). cond (p y) (y ∷ []) []) xs
          ≡ cond b (x ∷ flat_map (λ (y : X). cond (p y) (y ∷ []) []) xs)
          (flat_map (λ (y : X). cond (p y) (y ∷ []) []) xs)
      put true = refl
      put false = refl

  -- what a test keeps of a permuted list is permuted too
  pub IsPermutation-filter : (xs ys : List X) → IsPermutation xs ys → IsPermutation (filter p xs) (filter p ys)
  IsPermutation-filter xs ys s = subst (λ l. IsPermutation l (filter p ys)) (filter_flat xs)
      (subst (λ l. IsPermutation (flat_map (λ (x : X). cond (p x) (x ∷ []) []) xs) l) (filter_flat ys)
      (flat_map-permutation (λ (x : X). cond (p x) (x ∷ []) []) xs ys s))

  pub filter_reverse : (xs : List X) → filter p (reverse xs) ≡ reverse (filter p xs)
  filter_reverse [] = refl
  filter_reverse (x ∷ xs) = ap (filter p) (reverse-append (x ∷ []) xs) ∙ filter-append p (reverse xs) (x ∷ [])
      ∙ ap (λ l. l ++ filter p (x ∷ [])) (filter_reverse xs) ∙ put (p x)
    where
      put : (b : Bool) → reverse (filter p xs) ++ cond b (x ∷ []) [] ≡ reverse (cond b (x ∷ filter p xs) (filter p xs))
      put true = sym (reverse-append (x ∷ []) (filter p xs))
      put false = append-nil (reverse (filter p xs))

  pub kept_none : (xs : List X) → All (λ x. p x ≡ false) xs → filter p xs ≡ []
  kept_none [] h = refl
  kept_none (x ∷ xs) h = ap (λ b. cond b (x ∷ filter p xs) (filter p xs)) (h 0 x (omega arith))
      ∙ kept_none xs (All-tail (λ x. p x ≡ false) x xs h)

  module _ (q : X → Bool) where
    -- a test that keeps no more
    pub kept_again : ((x : X) → q x ≡ true → p x ≡ true) → (xs : List X) → filter q (filter p xs) ≡ filter q xs
    kept_again h [] = refl
    kept_again h (x ∷ xs) = step (p x) (q x) refl (h x) (kept_again h xs)
      where
        step : (b c : Bool) → q x ≡ c → (c ≡ true → b ≡ true) → filter q (filter p xs) ≡ filter q xs
            → filter q (cond b (x ∷ filter p xs) (filter p xs)) ≡ cond c (x ∷ filter q xs) (filter q xs)
        step true c e k rest = ap (λ d. cond d (x ∷ filter q (filter p xs)) (filter q (filter p xs))) e
            ∙ ap (λ l. cond c (x ∷ l) l) rest
        step false true e k rest = absurd (let never : false ≡ true = k refl in cc)
        step false false e k rest = rest

    -- a test that keeps none of them
    pub lost_again : ((x : X) → q x ≡ true → p x ≡ false) → (xs : List X) → filter q (filter p xs) ≡ []
    lost_again h [] = refl
    lost_again h (x ∷ xs) = step (p x) (q x) refl (h x) (lost_again h xs)
      where
        step : (b c : Bool) → q x ≡ c → (c ≡ true → b ≡ false) → filter q (filter p xs) ≡ []
            → filter q (cond b (x ∷ filter p xs) (filter p xs)) ≡ []
        step true true e k rest = absurd (let never : true ≡ false = k refl in cc)
        step true false e k rest =
            ap (λ d. cond d (x ∷ filter q (filter p xs)) (filter q (filter p xs))) e ∙ rest
        step false c e k rest = rest

-- neither of two is less than the other
tie : (o p : Ordering) → p ≡ ordering_reverse o → is_lt o ≡ false → is_lt p ≡ false → o ≡ Equal
tie Less p e h k = absurd (let never : true ≡ false = h in cc)
tie Equal p e h k = refl
tie Greater p e h k = absurd (let never : true ≡ false = sym (ap is_lt e) ∙ k in cc)

module _ {X : Type 0} {R : X → X → Ordering} (o : IsTotalOrder R) where
  abbrev pub NotLess : X → X → Type 0
  NotLess x y = is_lt (R y x) ≡ false

  module _ (like : X → X → Bool) (alike : (x y : X) → R x y ≡ Equal → like x y ≡ true) where
    same_head : (x : X) (xs : List X) (y : X) (ys : List X) → like y x ≡ true
        → filter (λ w. like w x) (x ∷ xs) ≡ filter (λ w. like w x) (y ∷ ys) → x ≡ y
    same_head x xs y ys l e =
        let one : filter (λ w. like w x) (x ∷ xs) ≡ x ∷ filter (λ w. like w x) xs =
        ap (λ b. cond b (x ∷ filter (λ w. like w x) xs) (filter (λ w. like w x) xs)) (alike x x (tied_itself o x)) in
        let two : filter (λ w. like w x) (y ∷ ys) ≡ y ∷ filter (λ w. like w x) ys =
        ap (λ b. cond b (y ∷ filter (λ w. like w x) ys) (filter (λ w. like w x) ys)) l in
        ap (λ l. get_or l 0 x) (sym one ∙ e ∙ two)

    same_tail : (x : X) (xs ys : List X) (b : Bool) → cond b (x ∷ xs) xs ≡ cond b (x ∷ ys) ys → xs ≡ ys
    same_tail x xs ys true e = ap (drop 1) e
    same_tail x xs ys false e = e

    in_other : (x : X) (xs ys : List X) → filter (λ w. like w x) (x ∷ xs) ≡ filter (λ w. like w x) ys → Contains ys x
    in_other x xs ys e = (filter_contains (λ w. like w x) ys x (subst (λ l. Contains l x) e
        (contains_filter (λ w. like w x) (x ∷ xs) x (contains_head x xs) (alike x x (tied_itself o x))))).0

    -- two lists in order, of which the elements like each one are the same, are one list
    pub same_sorted : (xs ys : List X) → Rises NotLess xs → Rises NotLess ys
        → ((z : X) → filter (λ w. like w z) xs ≡ filter (λ w. like w z) ys) → xs ≡ ys
    same_sorted [] [] h k e = refl
    same_sorted [] (y ∷ ys) h k e = absurd (let c = in_other y ys [] (sym (e y)) in let below = c.1 in omega arith)
    same_sorted (x ∷ xs) [] h k e = absurd (let c = in_other x xs [] (e x) in let below = c.1 in omega arith)
    same_sorted (x ∷ xs) (y ∷ ys) h k e =
        let same : x ≡ y = elim (cons_cases y ys x (in_other x xs (y ∷ ys) (e x))) [
          | inl is ↦ sym is
          | inr c ↦ elim (cons_cases x xs y (in_other y ys (x ∷ xs) (sym (e y)))) [
            | inl is ↦ is
            | inr d ↦ same_head x xs y ys
                (alike y x (tie (R y x) (R x y) (o.antisymm x y) (All-contains (NotLess x) xs y h.0 d)
                (All-contains (NotLess y) ys x k.0 c))) (e x)
          ]
        ] in
        ap (λ z. z ∷ xs) same ∙ ap (λ l. y ∷ l) (same_sorted xs ys h.1 k.1 (λ z.
        same_tail x (filter (λ w. like w z) xs) (filter (λ w. like w z) ys) (like x z)
        (e z ∙ ap (λ v. cond (like v z) (v ∷ filter (λ w. like w z) ys) (filter (λ w. like w z) ys)) (sym same))))

  module _ (exact : (x y : X) → R x y ≡ Equal → x ≡ y) where
    all_one : (z : X) (xs ys : List X) → All (λ x. x ≡ z) xs → All (λ x. x ≡ z) ys → length ys ≡ length xs → xs ≡ ys
    all_one z [] [] h k e = refl
    all_one z [] (y ∷ ys) h k e = absurd (omega (arith, e))
    all_one z (x ∷ xs) [] h k e = absurd (omega (arith, e))
    all_one z (x ∷ xs) (y ∷ ys) h k e =
        ap (λ v. v ∷ xs) (h 0 x (omega arith) ∙ sym (k 0 y (omega arith)))
        ∙ ap (λ l. y ∷ l) (all_one z xs ys (All-tail (λ x. x ≡ z) x xs h) (All-tail (λ x. x ≡ z) y ys k)
        (omega (arith, e)))

    are : (z : X) (xs : List X) → All (λ x. x ≡ z) (filter (λ w. is_eq (R w z)) xs)
    are z xs = All-weaker (λ x. is_eq (R x z) ≡ true) (λ x. x ≡ z) (λ x e. exact x z (tie_from_test (R x z) e))
        (filter (λ w. is_eq (R w z)) xs) (filter_passes (λ w. is_eq (R w z)) xs)

    -- where only equal elements tie, a list has one order
    pub one_sorted : (xs ys : List X) → IsPermutation xs ys → Rises NotLess xs → Rises NotLess ys → xs ≡ ys
    one_sorted xs ys perm h k = same_sorted (λ x z. is_eq (R x z)) (λ x y e. ap is_eq e) xs ys h k (λ z.
        all_one z (filter (λ w. is_eq (R w z)) xs) (filter (λ w. is_eq (R w z)) ys) (are z xs) (are z ys)
        (length_permutation (filter (λ w. is_eq (R w z)) xs) (filter (λ w. is_eq (R w z)) ys)
        (IsPermutation-filter (λ w. is_eq (R w z)) xs ys perm)))
