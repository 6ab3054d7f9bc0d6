-- What is kept of each share while all fronts are emptied.
use Rattle.meter_workers.proofs.Common.{◌≡◌, List, [], ◌∷◌, ◌++◌, map, sym, ap, ◌∙◌, subst, append_assoc, refl, HaveDone}
use Rattle.std.specs.List.{AllZip}
use Rattle.std.proofs.lemmas.List.{map-append}

-- one is taken off the end, and what is made of it put to the front of the others
pub moved : {W V : Type 0} (f : W → V) (xs xs' : List W) (x : W) (ys ys' all : List V) → xs ≡ xs' ++ x ∷ []
    → ys' ≡ f x ∷ ys → map f xs ++ ys ≡ all → map f xs' ++ ys' ≡ all
moved f xs xs' x ys ys' all taken put is =
    ap (λ l. map f xs' ++ l) put ∙ sym (append_assoc (map f xs') (f x ∷ []) ys)
    ∙ ap (λ l. l ++ ys) (sym (ap (map f) taken ∙ map-append f xs' (x ∷ []))) ∙ is

-- each is what was made of the one at its place
pub each-made : {W V : Type 0} (f : W → V) (xs : List W) (ys : List V) → ys ≡ map f xs → AllZip (λ x y. y ≡ f x) xs ys
each-made f xs ys is = subst (AllZip (λ x y. y ≡ f x) xs) (sym is) (made f xs)
  where
    made : {W V : Type 0} (f : W → V) (xs : List W) → AllZip (λ x y. y ≡ f x) xs (map f xs)
    made f [] = tt
    made f (x ∷ xs) = (refl, made f xs)

module _ {A W V : Type 0} (Has : List A → W → Type 0) (Has' : List A → V → Type 0) (R : W → V → Type 0)
    (keeps : (list : List A) (x : W) (y : V) → R x y → Has list x → Has' list y) where
  each-kept : (lists : List (List A)) (xs : List W) (ys : List V) → AllZip R xs ys → AllZip Has lists xs
      → AllZip Has' lists ys
  each-kept [] [] [] zip has = tt
  each-kept [] [] (y ∷ ys) zip has = absurd zip
  each-kept [] (x ∷ xs) ys zip has = absurd has
  each-kept (l ∷ lists) [] ys zip has = absurd has
  each-kept (l ∷ lists) (x ∷ xs) [] zip has = absurd zip
  each-kept (l ∷ lists) (x ∷ xs) (y ∷ ys) zip has =
      (keeps l x y zip.0 has.0, each-kept lists xs ys zip.1 has.1)

  -- what several have done, they have done still, where each keeps its own
  pub still-done : (things : List A) (xs : List W) (ys : List V) → AllZip R xs ys → HaveDone Has things xs
      → HaveDone Has' things ys
  still-done things xs ys zip have =
      record { lists = have.lists; whole = have.whole; each = each-kept have.lists xs ys zip have.each }
