-- What a test of keys leaves of lists that have one key each.
use Rattle.std.proofs.Common.{◌≡◌, Bool, true, false, cond, List, [], ◌∷◌, ◌++◌, refl, ap, ◌∙◌, arith, filter}
use Rattle.std.proofs.Common.{flat_map, All}
use Rattle.std.specs.List.{AllZip}
use Rattle.std.proofs.lemmas.List.Elements.{filter-append, All-tail}
use Rattle.flow_key.specs.declared.key.FlowKey.{FlowKey}
use Rattle.flow_parts.specs.declared.fragment.Fragment.{Fragment}

abbrev pub flat : {X : Type 0} → List (List X) → List X
flat lists = flat_map (λ list. list) lists

-- of lists that go together with fragments of their keys, the test leaves those that go together with the fragments
-- left
module _ {X : Type 0} (key_of : X → FlowKey) (R : List X → Fragment → Type 0)
    (one_key : (list : List X) (f : Fragment) → R list f → All (λ x. key_of x ≡ f.key) list) (q : FlowKey → Bool) where
  abbrev passes : X → Bool
  passes x = q (key_of x)

  abbrev of_part : Fragment → Bool
  of_part f = q f.key

  pass : (b : Bool) (key : FlowKey) (xs : List X) → All (λ x. key_of x ≡ key) xs → q key ≡ b
      → filter passes xs ≡ cond b xs []
  pass true key [] h e = refl
  pass false key [] h e = refl
  pass true key (x ∷ xs) h e =
      ap (λ b. cond b (x ∷ filter passes xs) (filter passes xs)) (ap q (h 0 x (omega arith)) ∙ e)
      ∙ ap (λ l. x ∷ l) (pass true key xs (All-tail (λ x. key_of x ≡ key) x xs h) e)
  pass false key (x ∷ xs) h e =
      ap (λ b. cond b (x ∷ filter passes xs) (filter passes xs)) (ap q (h 0 x (omega arith)) ∙ e)
      ∙ pass false key xs (All-tail (λ x. key_of x ≡ key) x xs h) e

  pub record Left (lists : List (List X)) (F : List Fragment) : Type 0 where
    pub lists_left : List (List X)
    pub whole : filter passes (flat lists) ≡ flat lists_left
    pub each : AllZip R lists_left F

  one_more : (x : List X) (lists : List (List X)) (f : Fragment) (F : List Fragment) → R x f
      → (b : Bool) → q f.key ≡ b → Left lists F → Left (x ∷ lists) (cond b (f ∷ F) F)
  one_more x lists f F h true e left = record {
    lists_left = x ∷ left.lists_left;
    whole = filter-append passes x (flat lists)
        ∙ ap (λ l. l ++ filter passes (flat lists)) (pass true f.key x (one_key x f h) e) ∙ ap (λ l. x ++ l) left.whole;
    each = (h, left.each);
  }
  one_more x lists f F h false e left = record {
    lists_left = left.lists_left;
    whole = filter-append passes x (flat lists)
        ∙ ap (λ l. l ++ filter passes (flat lists)) (pass false f.key x (one_key x f h) e) ∙ left.whole;
    each = left.each;
  }

  pub left_of : (lists : List (List X)) (F : List Fragment) → AllZip R lists F → Left lists (filter of_part F)
  left_of [] [] h = record { lists_left = []; whole = refl; each = tt }
  left_of [] (f ∷ F) h = absurd h
  left_of (x ∷ lists) [] h = absurd h
  left_of (x ∷ lists) (f ∷ F) h =
      one_more x lists f (filter of_part F) h.0 (q f.key) refl (left_of lists F h.1)
