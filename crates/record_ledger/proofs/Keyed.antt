-- The records of one key in lists that are in order.
use Rattle.std.proofs.Common.{◌≡◌, ℕ, zero, suc, ◌<◌, Bool, true, false, cond, ◌⊎◌, inl, inr, List, [], ◌∷◌, length}
use Rattle.std.proofs.Common.{get_or, map, filter, refl, sym, ap, ◌∙◌, subst, arith, All, AllPairs, Contains}
use Rattle.std.specs.List.{IsDistinct}
use Rattle.std.specs.Cmp.{IsTotalOrder}
use Rattle.std.specs.Ordering.{MatchOrdering, is_lt, is_eq, nat_cmp, ordering_then, ordering_reverse}
use Rattle.std.specs.declared.cmp.Ordering.{Ordering}
use Rattle.std.specs.declared.cmp.Ordering.TheVariants.{Less, Equal, Greater}
use Rattle.std.proofs.lemmas.Cmp.{alike_right, eq_by_cmp_equiv, ranked}
use Rattle.std.proofs.lemmas.List.Elements.{All-cons, All-nil, All-head, All-tail, All-weaker, All-contains}
use Rattle.std.proofs.lemmas.List.Elements.{All-contains_itself, All-filter, All-from_recursion, recursion_from_All}
use Rattle.std.proofs.lemmas.List.Elements.{filter_passes, Contains-append_right, Contains-append_cases}
use Rattle.std.proofs.lemmas.Map.Keys.{IsDistinct-head, IsDistinct-tail, IsDistinct-cons, IsDistinct-from_apart}
use Rattle.flow_parts.specs.declared.fragment.Fragment.{Fragment}
use Rattle.flow_parts.proofs.Members.{All-one}
use Rattle.record_ledger.specs.declared.record.FlowRecord.{FlowRecord}
use Rattle.record_ledger.specs.Steps.{Rises}

abbrev pub part_of : FlowRecord → Fragment
part_of r = r.part

-- what the answers of two comparisons in turn say of each
pub first_not_less : (o p : Ordering) → is_lt (ordering_then o p) ≡ false → is_lt o ≡ false
first_not_less Less p e = e
first_not_less Equal p e = refl
first_not_less Greater p e = refl

pub second_less : (o p : Ordering) → o ≡ Equal → ordering_then o p ≡ Less → p ≡ Less
second_less Less p e h = cc
second_less Equal p e h = h
second_less Greater p e h = cc

pub first_less : (o p : Ordering) → p ≡ Equal → ordering_then o p ≡ Less → o ≡ Less
first_less Less p e h = h
first_less Equal p e h = cc
first_less Greater p e h = cc

pub both_tie : (o p : Ordering) → o ≡ Equal → p ≡ Equal → ordering_then o p ≡ Equal
both_tie Less p e h = cc
both_tie Equal p e h = h
both_tie Greater p e h = cc

pub tie_from_test : (o : Ordering) → is_eq o ≡ true → o ≡ Equal
tie_from_test Less e = absurd (let e' : false ≡ true = e in cc)
tie_from_test Equal e = refl
tie_from_test Greater e = absurd (let e' : false ≡ true = e in cc)

pub less_numbers : (x y : ℕ) → nat_cmp x y ≡ Less → x < y
less_numbers x y e = let P : Ordering → Type 0 = λ o. MatchOrdering o (x < y) (x ≡ y) (y < x) in
    subst P e (ranked x y (nat_cmp x y) refl)

module _ {K : Type 0} {R : K → K → Ordering} (o : IsTotalOrder R) where
  pub less_from_greater : (a b : K) → R b a ≡ Greater → R a b ≡ Less
  less_from_greater a b e = o.antisymm a b ∙ ap ordering_reverse e

  -- b is below a, and c isn't below b
  pub less_than_rest : (a b c : K) → R a b ≡ Less → (q : Ordering) → R c b ≡ q → is_lt q ≡ false → R a c ≡ Less
  less_than_rest a b c l Less e h = absurd (let e' : true ≡ false = h in cc)
  less_than_rest a b c l Equal e h = alike_right o c b a e ∙ l
  less_than_rest a b c l Greater e h = o.trans a b c l (less_from_greater b c e)

  pub less_otherwise : (a b : K) → (q : Ordering) → R b a ≡ q → is_lt q ≡ false → is_eq q ≡ false → R a b ≡ Less
  less_otherwise a b Less e h k = absurd (let e' : true ≡ false = h in cc)
  less_otherwise a b Equal e h k = absurd (let e' : true ≡ false = k in cc)
  less_otherwise a b Greater e h k = less_from_greater a b e

  pub less_no_tie : (a b : K) → R a b ≡ Less → is_eq (R b a) ≡ false
  less_no_tie a b e = ap is_eq (o.antisymm b a ∙ ap ordering_reverse e)

  pub less_no_tie' : (a b : K) → R a b ≡ Less → is_eq (R a b) ≡ false
  less_no_tie' a b e = ap is_eq e

  pub tie_flips : (a b : K) → is_eq (R a b) ≡ is_eq (R b a)
  tie_flips a b = (eq_by_cmp_equiv o).symm a b

  -- a list in order without ties rises
  pub rises_distinct : (xs : List K) → Rises (λ x y. is_lt (R y x) ≡ false) xs → IsDistinct (λ x y. is_eq (R x y)) xs
      → Rises (λ x y. R x y ≡ Less) xs
  rises_distinct [] h d = tt
  rises_distinct (x ∷ xs) h d =
      let apart = All-from_recursion (λ y. is_eq (R x y) ≡ false) xs
      (IsDistinct-head (λ a b. is_eq (R a b)) x xs d) in (
        λ k e l. less_otherwise x (get_or xs k e) (R (get_or xs k e) x) refl (h.0 k e l)
            (tie_flips (get_or xs k e) x ∙ apart k e l),
        rises_distinct xs h.1 (IsDistinct-tail (λ a b. is_eq (R a b)) x xs d),
      )

  -- one more element below the first of a rising list is below all of it
  pub rises_more : (x y : K) (xs : List K) → R x y ≡ Less → Rises (λ a b. R a b ≡ Less) (y ∷ xs)
      → Rises (λ a b. R a b ≡ Less) (x ∷ y ∷ xs)
  rises_more x y xs e h = (
    All-cons (λ z. R x z ≡ Less) y xs e
        (All-weaker (λ z. R y z ≡ Less) (λ z. R x z ≡ Less) (λ z f. o.trans x y z e f) xs h.0),
    h,
  )

-- elements that no later one is equal to
pub distinct_from_rises : {K : Type 0} (e : K → K → Bool) (xs : List K) → Rises (λ x y. e x y ≡ false) xs
    → IsDistinct e xs
distinct_from_rises e [] h = IsDistinct-from_apart e [] (λ i j d l m. absurd (omega arith))
distinct_from_rises e (x ∷ xs) h = IsDistinct-cons e x xs (recursion_from_All (λ y. e x y ≡ false) xs h.0)
    (distinct_from_rises e xs h.1)

module _ {X : Type 0} where
  pub cons_cases : (y : X) (ys : List X) (z : X) → Contains (y ∷ ys) z → (y ≡ z) ⊎ Contains ys z
  cons_cases y ys z c = elim (Contains-append_cases (y ∷ []) ys z c) [
    | inl c' ↦ inl (All-contains (λ x. y ≡ x) (y ∷ []) z (All-one (λ x. y ≡ x) y refl) c')
    | inr c' ↦ inr c'
  ]

  pub contains_head : (y : X) (ys : List X) → Contains (y ∷ ys) y
  contains_head y ys = (0, omega arith, refl)

  pub contains_more : (y : X) (ys : List X) (z : X) → Contains ys z → Contains (y ∷ ys) z
  contains_more y ys z c = Contains-append_right (y ∷ []) ys z c

  module _ (p : X → Bool) where
    pub filter_contains : (xs : List X) (z : X) → Contains (filter p xs) z → Contains xs z × (p z ≡ true)
    filter_contains xs z c = (
      All-contains (Contains xs) (filter p xs) z (All-filter p (Contains xs) xs (All-contains_itself xs)) c,
      All-contains (λ x. p x ≡ true) (filter p xs) z (filter_passes p xs) c,
    )

    kept : (b : Bool) (x : X) (rest : List X) (z : X) → Contains rest z → Contains (cond b (x ∷ rest) rest) z
    kept true x rest z c = contains_more x rest z c
    kept false x rest z c = c

    found : (b : Bool) (x : X) (rest : List X) → b ≡ true → Contains (cond b (x ∷ rest) rest) x
    found true x rest e = contains_head x rest
    found false x rest e = absurd (cc)

    pub contains_filter : (xs : List X) (z : X) → Contains xs z → p z ≡ true → Contains (filter p xs) z
    contains_filter [] z c e = absurd (let below = c.1 in omega arith)
    contains_filter (x ∷ xs) z c e = elim (cons_cases x xs z c) [
      | inl same ↦ subst (Contains (filter p (x ∷ xs))) same (found (p x) x (filter p xs) (ap p same ∙ e))
      | inr c' ↦ kept (p x) x (filter p xs) z (contains_filter xs z c' e)
    ]

    module _ (R S : X → X → Type 0) (weaker : (x y : X) → p x ≡ true → p y ≡ true → R x y → S x y) where
      rises_kept : (b : Bool) (x : X) (xs : List X) → p x ≡ b → All (R x) xs → Rises S (filter p xs)
          → Rises S (cond b (x ∷ filter p xs) (filter p xs))
      rises_kept true x xs e all h = (
        λ k d l. weaker x (get_or (filter p xs) k d) e (filter_passes p xs k d l)
            (All-filter p (R x) xs all k d l),
        h,
      )
      rises_kept false x xs e all h = h

      pub rises_filter : (xs : List X) → Rises R xs → Rises S (filter p xs)
      rises_filter [] h = tt
      rises_filter (x ∷ xs) h = rises_kept (p x) x xs refl h.0 (rises_filter xs h.1)

  -- two rising lists with the same elements are one list
  module _ (Up : X → X → Type 0) (asym : (a b : X) → Up a b → Up b a → ⊥) where
    heads : (x : X) (xs : List X) (y : X) (ys : List X) → All (Up x) xs → All (Up y) ys → Contains (y ∷ ys) x
        → Contains (x ∷ xs) y → y ≡ x
    heads x xs y ys h k c c' = elim (cons_cases y ys x c) [
      | inl e ↦ e
      | inr in_ys ↦ elim (cons_cases x xs y c') [
        | inl e ↦ sym e
        | inr in_xs ↦ absurd (asym x y (All-contains (Up x) xs y h in_xs) (All-contains (Up y) ys x k in_ys))
      ]
    ]

    tails : (x : X) (xs : List X) (y : X) (ys : List X) → y ≡ x → All (Up x) xs
        → ((z : X) → Contains (x ∷ xs) z → Contains (y ∷ ys) z) → (z : X) → Contains xs z → Contains ys z
    tails x xs y ys e h into z c = elim (cons_cases y ys z (into z (contains_more x xs z c))) [
      | inl e' ↦ absurd (let up : Up x x = subst (Up x) (sym e' ∙ e) (All-contains (Up x) xs z h c) in asym x x up up)
      | inr c' ↦ c'
    ]

    pub same_rising : (xs ys : List X) → Rises Up xs → Rises Up ys → ((z : X) → Contains xs z → Contains ys z)
        → ((z : X) → Contains ys z → Contains xs z) → xs ≡ ys
    same_rising [] [] h k into from = refl
    same_rising [] (y ∷ ys) h k into from = absurd
        (let c = from y (contains_head y ys) in let below = c.1 in omega arith)
    same_rising (x ∷ xs) [] h k into from = absurd
        (let c = into x (contains_head x xs) in let below = c.1 in omega arith)
    same_rising (x ∷ xs) (y ∷ ys) h k into from =
        let e : y ≡ x = heads x xs y ys h.0 k.0 (into x (contains_head x xs)) (from y (contains_head y ys)) in
        ap (λ z. z ∷ xs) (sym e) ∙ ap (λ l. y ∷ l)
        (same_rising xs ys h.1 k.1 (tails x xs y ys e h.0 into) (tails y ys x xs (sym e) k.0 from))

  pair_at : (R : X → X → Type 0) (x : X) (xs : List X) → All (R x) xs → AllPairs R xs
      → (i j : ℕ) (d : X) → i < j → j < length (x ∷ xs) → R (get_or (x ∷ xs) i d) (get_or (x ∷ xs) j d)
  pair_at R x xs h k zero zero d l m = absurd (omega arith)
  pair_at R x xs h k zero (suc j) d l m = h j d (omega arith)
  pair_at R x xs h k (suc i) zero d l m = absurd (omega arith)
  pair_at R x xs h k (suc i) (suc j) d l m = k i j d (omega arith) (omega arith)

  -- what holds of each element and each later one, by index
  pub pairs_from_rises : (R : X → X → Type 0) (xs : List X) → Rises R xs → AllPairs R xs
  pairs_from_rises R [] h = λ i j d l m. absurd (omega arith)
  pairs_from_rises R (x ∷ xs) h = pair_at R x xs h.0 (pairs_from_rises R xs h.1)

module _ {X Y : Type 0} (f : X → Y) where
  pub All-unmap : (P : Y → Type 0) (xs : List X) → All P (map f xs) → All (λ x. P (f x)) xs
  All-unmap P [] h = All-nil (λ x. P (f x))
  All-unmap P (x ∷ xs) h = All-cons (λ z. P (f z)) x xs (All-head P (f x) (map f xs) h)
      (All-unmap P xs (All-tail P (f x) (map f xs) h))

  pub All-of_map : (P : Y → Type 0) (xs : List X) → All (λ x. P (f x)) xs → All P (map f xs)
  All-of_map P [] h = All-nil P
  All-of_map P (x ∷ xs) h = All-cons P (f x) (map f xs) (All-head (λ z. P (f z)) x xs h)
      (All-of_map P xs (All-tail (λ z. P (f z)) x xs h))

  pub rises_of_map : (R : Y → Y → Type 0) (xs : List X) → Rises (λ a b. R (f a) (f b)) xs → Rises R (map f xs)
  rises_of_map R [] h = tt
  rises_of_map R (x ∷ xs) h = (All-of_map (R (f x)) xs h.0, rises_of_map R xs h.1)

  pub rises_unmap : (R : Y → Y → Type 0) (xs : List X) → Rises R (map f xs) → Rises (λ a b. R (f a) (f b)) xs
  rises_unmap R [] h = tt
  rises_unmap R (x ∷ xs) h = (All-unmap (R (f x)) xs h.0, rises_unmap R xs h.1)

pub rises_weaker : {X : Type 0} (R S : X → X → Type 0) → ((x y : X) → R x y → S x y) → (xs : List X) → Rises R xs
    → Rises S xs
rises_weaker R S weaker [] h = tt
rises_weaker R S weaker (x ∷ xs) h = (All-weaker (R x) (S x) (weaker x) xs h.0, rises_weaker R S weaker xs h.1)
