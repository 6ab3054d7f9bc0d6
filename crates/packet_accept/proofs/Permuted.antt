-- What is made of the elements of a permuted list, one behind the other, is permuted too.
use Rattle.std.proofs.Common.{◌≡◌, ℕ, suc, ◌<◌, inl, inr, List, [], ◌∷◌, ◌++◌, length, get_or, set, take, drop, Option}
use Rattle.std.proofs.Common.{Some, None, refl, sym, ap, ◌∙◌, subst, arith, flat_map, IsPermutation}
use Rattle.std.specs.List.{filter_map, cons_option, swap}
use Rattle.std.proofs.lemmas.Bool.{cases_order}
use Rattle.std.proofs.lemmas.List.{set_split, set_at, set_comm, set-append_left, set-get_or, get_or-take, length-set}
use Rattle.std.proofs.lemmas.List.{length-take, append_assoc}
use Rattle.std.proofs.lemmas.List.Concat.{flat_map-append}
use Rattle.std.proofs.lemmas.List.Sorted.{IsPermutation-refl, IsPermutation-trans, IsPermutation-append_left}
use Rattle.std.proofs.lemmas.List.Sorted.{IsPermutation-append_right, IsPermutation-append_comm, IsPermutation-keeps}

module _ {B : Type 0} where
  same : (xs ys : List B) → xs ≡ ys → IsPermutation xs ys
  same xs ys e = subst (λ l. IsPermutation xs l) e (IsPermutation-refl xs)

  moved : (a b c : List B) → IsPermutation (a ++ (b ++ c)) (b ++ (a ++ c))
  moved a b c = subst (λ l. IsPermutation l (b ++ (a ++ c))) (append_assoc a b c)
      (subst (λ l. IsPermutation ((a ++ b) ++ c) l) (append_assoc b a c)
      (IsPermutation-append_left c (a ++ b) (b ++ a) (IsPermutation-append_comm a b)))

  -- two pieces change places
  crossed : (a x b y c : List B) → IsPermutation ((a ++ (x ++ b)) ++ (y ++ c)) ((a ++ (y ++ b)) ++ (x ++ c))
  crossed a x b y c =
      let one : IsPermutation (x ++ (b ++ (y ++ c))) (x ++ (y ++ (b ++ c))) =
      IsPermutation-append_right x (b ++ (y ++ c)) (y ++ (b ++ c)) (moved b y c) in
      let two : IsPermutation (x ++ (y ++ (b ++ c))) (y ++ (x ++ (b ++ c))) = moved x y (b ++ c) in
      let three : IsPermutation (y ++ (x ++ (b ++ c))) (y ++ (b ++ (x ++ c))) =
      IsPermutation-append_right y (x ++ (b ++ c)) (b ++ (x ++ c)) (moved x b c) in
      let all : IsPermutation (x ++ (b ++ (y ++ c))) (y ++ (b ++ (x ++ c))) =
      IsPermutation-trans _ _ _ (IsPermutation-trans _ _ _ one two) three in
      IsPermutation-trans _ _ _ (same ((a ++ (x ++ b)) ++ (y ++ c)) (a ++ (x ++ (b ++ (y ++ c)))) (simp append_assoc))
      (IsPermutation-trans _ _ _ (IsPermutation-append_right a _ _ all)
      (same (a ++ (y ++ (b ++ (x ++ c)))) ((a ++ (y ++ b)) ++ (x ++ c)) (simp append_assoc)))

module _ {A B : Type 0} (f : A → List B) where
  F : List A → List B
  F l = flat_map f l

  -- a list with its element at i written anew, and as it was
  written : (l : List A) (i : ℕ) (y : A) → i < length l → F (set l i y) ≡ F (take i l) ++ (f y ++ F (drop (suc i) l))
  unfolding F
  written l i y p = ap F (set_split l i y p) ∙ flat_map-append f (take i l) (y ∷ drop (suc i) l)

  cut : (l : List A) (i : ℕ) (d : A) → i < length l → F l ≡ F (take i l) ++ (f (get_or l i d) ++ F (drop (suc i) l))
  cut l i d p = ap F (sym (set-get_or l i d)) ∙ written l i (get_or l i d) p

  -- the list xs, y, ys with its element at i and y in each other's place
  exchanged : (xs : List A) (y : A) (ys : List A) (i j : ℕ) (d : A) → i < length xs → length xs ≡ j
      → IsPermutation (F (xs ++ y ∷ ys)) (F (set (set (xs ++ y ∷ ys) i y) j (get_or xs i d)))
  unfolding F
  exchanged xs y ys i j d p long =
      let x : A = get_or xs i d in
      let before : F (xs ++ y ∷ ys) ≡ (F (take i xs) ++ (f x ++ F (drop (suc i) xs))) ++ (f y ++ F ys)
      = flat_map-append f xs (y ∷ ys) ∙ ap (λ l. l ++ (f y ++ F ys)) (cut xs i d p) in
      let long' : length (set xs i y) ≡ j = length-set xs i y ∙ long in
      let set' : set (set (xs ++ y ∷ ys) i y) j x ≡ set xs i y ++ x ∷ ys
      = ap (λ l. set l j x) (set-append_left xs (y ∷ ys) i y p) ∙ set_at (set xs i y) y ys x j long' in
      let after : F (set (set (xs ++ y ∷ ys) i y) j x)
      ≡ (F (take i xs) ++ (f y ++ F (drop (suc i) xs))) ++ (f x ++ F ys)
      = ap F set' ∙ flat_map-append f (set xs i y) (x ∷ ys) ∙ ap (λ l. l ++ (f x ++ F ys)) (written xs i y p) in
      subst (λ l. IsPermutation l (F (set (set (xs ++ y ∷ ys) i y) j x))) (sym before)
      (subst (λ l. IsPermutation ((F (take i xs) ++ (f x ++ F (drop (suc i) xs))) ++ (f y ++ F ys)) l) (sym after)
      (crossed (F (take i xs)) (f x) (F (drop (suc i) xs)) (f y) (F ys)))

  -- two elements of a list in each other's place
  turned : (l : List A) (i j : ℕ) (d : A) → i < j → j < length l
      → IsPermutation (F l) (F (set (set l i (get_or l j d)) j (get_or l i d)))
  turned l i j d p q =
      let xs : List A = take j l in
      let y : A = get_or l j d in
      let ys : List A = drop (suc j) l in
      let long : length xs ≡ j = rw length-take (omega arith) in
      let is : xs ++ y ∷ ys ≡ l = sym (set_split l j y q) ∙ set-get_or l j d in
      let x : get_or xs i d ≡ get_or l i d = get_or-take j l i d p in
      let h : IsPermutation (F (xs ++ y ∷ ys)) (F (set (set (xs ++ y ∷ ys) i y) j (get_or xs i d))) =
      exchanged xs y ys i j d (omega arith) long in
      let h' : IsPermutation (F l) (F (set (set l i y) j (get_or xs i d))) =
      subst (λ m. IsPermutation (F m) (F (set (set m i y) j (get_or xs i d)))) is h in
      subst (λ z. IsPermutation (F l) (F (set (set l i y) j z))) x h'

  swapped : (l : List A) (i j : ℕ) → i < length l → j < length l → IsPermutation (F l) (F (swap l i j))
  swapped [] i j p q = absurd (omega arith)
  swapped (d ∷ ys) i j p q =
      let l : List A = d ∷ ys in
      let x : A = get_or l i d in
      elim (cases_order i j) [
        | inl e ↦ subst (λ n. IsPermutation (F l) (F (set (set l i (get_or l n d)) n x))) e
            (same (F l) (F (set (set l i x) i x))
            (ap F (sym (ap (λ m. set m i x) (set-get_or l i d) ∙ set-get_or l i d))))
        | inr (inl less) ↦ turned l i j d less q
        | inr (inr more) ↦ subst (λ m. IsPermutation (F l) (F m)) (sym (set_comm l i j (get_or l j d) x (omega arith)))
            (turned l j i d more p)
      ]

  pub flat_map-permutation : (xs ys : List A) → IsPermutation xs ys → IsPermutation (flat_map f xs) (flat_map f ys)
  unfolding F
  flat_map-permutation xs ys s = IsPermutation-keeps xs (λ l. IsPermutation (F xs) (F l)) (IsPermutation-refl (F xs))
      (λ l i j p q h. IsPermutation-trans (F xs) (F l) (F (swap l i j)) h (swapped l i j p q)) ys s

-- A choice of elements is such a list: of each element none or one.
module _ {A B : Type 0} (h : A → Option B) where
  put : (o : Option B) (l : List B) → cons_option o l ≡ cons_option o [] ++ l
  put None l = refl
  put (Some y) l = refl

  chosen : (l : List A) → filter_map h l ≡ flat_map (λ x. cons_option (h x) []) l
  chosen [] = refl
  chosen (x ∷ l) = put (h x) (filter_map h l) ∙ ap (λ rest. cons_option (h x) [] ++ rest) (chosen l)

  pub filter_map-permutation : (xs ys : List A) → IsPermutation xs ys
      → IsPermutation (filter_map h xs) (filter_map h ys)
  filter_map-permutation xs ys s = rw (chosen xs, chosen ys) (flat_map-permutation (λ x. cons_option (h x) []) xs ys s)
