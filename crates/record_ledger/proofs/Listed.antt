-- Places in lists that follow one another.
use Rattle.std.proofs.Common.{Vec, Global, ◌≡◌, ℕ, ◌+◌, ◌-◌, ◌<◌, ◌≤◌, List, ◌++◌, length, get_or, take, drop}
use Rattle.std.proofs.Common.{sym, ap, ◌∙◌, subst, arith, length-drop}
use Rattle.std.proofs.Math.ListN.{get_or-append}
use Rattle.std.proofs.Math.Seq.{drop-append-add}
use Rattle.std.proofs.lemmas.List.{at_drop_more, at_drop_all, drop-append-le, take-append-le, get_or-drop}
use Rattle.record_ledger.specs.declared.place.Place.{Place}
use Rattle.record_ledger.specs.Buckets.{places_of}

-- what follows on a first list
past : {X : Type 0} (xs ys : List X) (n : ℕ) → length xs ≤ n → drop n (xs ++ ys) ≡ drop (n - length xs) ys
past xs ys n l = (let same : n ≡ length xs + (n - length xs) = omega arith in
    ap (λ m. drop m (xs ++ ys)) same) ∙ drop-append-add xs ys (n - length xs)

-- where two lists go on alike, their next elements are the same
next_same : {X : Type 0} (xs ys : List X) (n m : ℕ) (d : X) → drop n xs ≡ drop m ys → get_or xs n d ≡ get_or ys m d
next_same xs ys n m d e =
    let one : n + 0 ≡ n = omega arith in
    let other : m + 0 ≡ m = omega arith in
    ap (λ k. get_or xs k d) (sym one) ∙ sym (get_or-drop n xs 0 d) ∙ ap (λ l. get_or l 0 d) e ∙ get_or-drop m ys 0 d
    ∙ ap (λ k. get_or ys k d) other

module _ (lists : List (Vec Place Global)) (number : ℕ) where
  -- the places from a number on are those from `left` on, where the first i lists are left behind
  abbrev pub IsBehind : ℕ → ℕ → Type 0
  IsBehind i left = drop number (places_of lists) ≡ drop left (places_of (drop i lists))

  pub all_behind : (i left : ℕ) → IsBehind i left → length lists ≤ i → length (places_of lists) ≤ number
  all_behind i left behind l =
      let none : length (places_of (drop i lists)) ≡ 0 = at_drop_all (λ ls. length (places_of ls)) lists i l in
      let same : length (drop number (places_of lists)) ≡ length (drop left (places_of (drop i lists))) = ap length behind in
      omega (arith, none, same, length-drop number (places_of lists), length-drop left (places_of (drop i lists)))

  module _ (i left : ℕ) (list : Vec Place Global) (behind : IsBehind i left) (l : i < length lists)
      (is : list ≡ get_or lists i list) where
    abbrev rest : List Place
    rest = places_of (drop (i + 1) lists)

    -- the next list comes first
    list_first : drop number (places_of lists) ≡ drop left (list.items ++ rest)
    list_first = behind ∙ ap (drop left) (at_drop_more places_of lists i list l
        ∙ ap (λ (v : Vec Place Global). v.items ++ rest) (sym is))

    -- one more list is left behind
    pub one_behind : (n : ℕ) → n ≡ length list.items → n ≤ left → IsBehind (i + 1) (left - n)
    one_behind n many low = list_first ∙ past list.items rest left (subst (λ m. m ≤ left) many low)
        ∙ ap (λ m. drop (left - m) rest) (sym many)

    -- the place lies in the next list
    pub place_here : (place : Place) → left < length list.items → place ≡ get_or list.items left place
        → place ≡ get_or (places_of lists) number place
    place_here place low here = here ∙ sym (get_or-append list.items rest place left low)
        ∙ sym (next_same (places_of lists) (list.items ++ rest) number left place list_first)

    -- so many places lie there
    pub places_here : (n : ℕ) → left + n ≤ length list.items
        → take n (drop left list.items) ≡ take n (drop number (places_of lists))
    places_here n low = sym (ap (take n) (list_first ∙ drop-append-le left list.items rest (omega (arith, low)))
        ∙ take-append-le n (drop left list.items) rest (omega (arith, low, length-drop left list.items)))
