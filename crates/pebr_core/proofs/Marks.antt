-- Marks, and lists with one place changed.
use Rattle.std.proofs.Common.{◌≡◌, ◌≢◌, ℕ, ◌<◌, ◌⊎◌, Bool, true, false, List, length, get_or, set, map, replicate}
use Rattle.std.proofs.Common.{Option, Some, None, is_some, refl, sym, ◌∙◌, ap, subst, inl, inr, arith, get_or-set_same}
use Rattle.std.proofs.Common.{get_or-set_other, zero, suc, [], ◌∷◌, unwrap_or, take, drop, ◌++◌, not, ◌&&◌, ◌||◌, cond}
use Rattle.std.proofs.Common.{◌+◌, ◌≤◌, zero-le}
use Rattle.std.proofs.lemmas.Bool.{false≢true, cases_eq, and_parts}
use Rattle.std.proofs.lemmas.Option.{same_Some}
use Rattle.std.specs.List.{list_all, range_with_len}
use Rattle.pebr_core.specs.declared.kinds.Retired.{Retired}
use Rattle.pebr_core.specs.declared.kinds.Retired.TheVariants as retire
use Rattle.pebr_core.specs.State.{has}
use Rattle.pebr_core.specs.Steps.{empty_set_below, without, union_of, slots_without, each_below}

-- what is read at a place of a list after a change
pub set_at : {A : Type 0} (P : A → Type 0) (xs : List A) (i : ℕ) (v d : A) (j : ℕ) → i < length xs → (j ≡ i → P v)
    → (j ≢ i → P (get_or xs j d)) → P (get_or (set xs i v) j d)
set_at {A} P xs i v d j inside here there =
    ⊎_cases (cases_eq j i)
  where
    ⊎_cases : ((j ≡ i) ⊎ (j ≡ i → ⊥)) → P (get_or (set xs i v) j d)
    ⊎_cases (inl e) = subst P (sym (ap (λ k. get_or (set xs i v) k d) e ∙ get_or-set_same xs i v d inside)) (here e)
    ⊎_cases (inr n) = subst P (sym (get_or-set_other xs i j v d n)) (there n)

-- the same, where it may be past the end
pub set_anywhere : {A : Type 0} (P : A → Type 0) (xs : List A) (i : ℕ) (v d : A) (j : ℕ) → (j ≡ i → P v)
    → P (get_or xs j d) → P (get_or (set xs i v) j d)
set_anywhere P [] i v d j here there = there
set_anywhere P (x ∷ xs) zero v d zero here there = here refl
set_anywhere P (x ∷ xs) zero v d (suc j) here there = there
set_anywhere P (x ∷ xs) (suc i) v d zero here there = there
set_anywhere P (x ∷ xs) (suc i) v d (suc j) here there = set_anywhere P xs i v d j (λ e. here (ap suc e)) there

pub get_or-map_default : {A B : Type 0} (f : A → B) (xs : List A) (i : ℕ) (d : A)
    → get_or (map f xs) i (f d) ≡ f (get_or xs i d)
get_or-map_default f [] i d = refl
get_or-map_default f (x ∷ xs) zero d = refl
get_or-map_default f (x ∷ xs) (suc i) d = get_or-map_default f xs i d

pub get_or-replicate_default : {A : Type 0} (n i : ℕ) (d : A) → get_or (replicate n d) i d ≡ d
get_or-replicate_default zero i d = refl
get_or-replicate_default (suc n) zero d = refl
get_or-replicate_default (suc n) (suc i) d = get_or-replicate_default n i d

-- nothing is in an emptied set
pub has-empty_set_below : (marks : List Bool) (i : ℕ) → has (empty_set_below marks) i ≡ false
has-empty_set_below marks i = get_or-map_default (λ _. false) marks i false

pub has-replicate : (n i : ℕ) → has (replicate n false) i ≡ false
has-replicate n i = get_or-replicate_default n i false

-- what was in a set still is, with a number added
pub has-added : (marks : List Bool) (i j : ℕ) → has marks j ≡ true → has (set marks i true) j ≡ true
has-added marks i j h = set_anywhere (λ b. b ≡ true) marks i true false j (λ _. refl) h

pub has-here : (marks : List Bool) (i : ℕ) → i < length marks → has (set marks i true) i ≡ true
has-here marks i h = get_or-set_same marks i true false h

-- what is in a set with a number added is that number, or was in it
pub has-either : (marks : List Bool) (i j : ℕ) → has (set marks i true) j ≡ true → (j ≡ i) ⊎ (has marks j ≡ true)
has-either [] i j h = inr h
has-either (x ∷ xs) zero zero h = inl refl
has-either (x ∷ xs) zero (suc j) h = inr h
has-either (x ∷ xs) (suc i) zero h = inr h
has-either (x ∷ xs) (suc i) (suc j) h = elim (has-either xs i j h) [ inl e ↦ inl (ap suc e) | inr k ↦ inr k ]

-- what isn't in a set with a number added wasn't in it
pub has-not_added : (marks : List Bool) (i j : ℕ) → has (set marks i true) j ≡ false → has marks j ≡ false
has-not_added [] i j h = h
has-not_added (x ∷ xs) zero zero h = absurd (false≢true (sym h))
has-not_added (x ∷ xs) zero (suc j) h = h
has-not_added (x ∷ xs) (suc i) zero h = h
has-not_added (x ∷ xs) (suc i) (suc j) h = has-not_added xs i j h

-- a fact on what stands in a Some
pub at_some : {A : Type 0} (P : A → Type 0) (a b : A) → Some a ≡ Some b → P a → P b
at_some P a b e h = subst P (same_Some a b e) h

pub is_some-value : {A : Type 0} (o : Option A) (d : A) → is_some o ≡ true → o ≡ Some (unwrap_or o d)
is_some-value None d h = absurd (false≢true h)
is_some-value (Some x) d h = refl

-- a slice of a whole vector, written back
pub written_back : {A : Type 0} (xs ys : List A) (n : ℕ) → n ≡ length ys → length xs ≡ length ys
    → take n (xs ++ drop (length xs) ys) ≡ xs
written_back [] [] n h k = ap (λ m. take m []) h
written_back [] (y ∷ ys) n h k = absurd (omega arith)
written_back (x ∷ xs) [] n h k = absurd (omega arith)
written_back (x ∷ xs) (y ∷ ys) zero h k = absurd (omega arith)
written_back (x ∷ xs) (y ∷ ys) (suc n) h k = ap (λ l. x ∷ l) (written_back xs ys n (omega arith) (omega arith))

pub filled_with : {A : Type 0} (xs ys : List A) (v : A) → length xs ≡ length ys
    → ((k : ℕ) → k < length xs → get_or xs k v ≡ v) → xs ≡ map (λ _. v) ys
filled_with [] [] v h k = refl
filled_with [] (y ∷ ys) v h k = absurd (omega arith)
filled_with (x ∷ xs) [] v h k = absurd (omega arith)
filled_with (x ∷ xs) (y ∷ ys) v h k = ap (λ z. z ∷ xs) (k 0 (omega arith))
    ∙ ap (λ l. v ∷ l) (filled_with xs ys v (omega arith) (λ i lt. k (suc i) (omega arith)))

pub rows_filled : {A : Type 0} (xs ys : List (List A)) (f : List A → List A) → length xs ≡ length ys
    → ((k : ℕ) → k < length xs → get_or xs k [] ≡ f (get_or ys k [])) → xs ≡ map f ys
rows_filled [] [] f h k = refl
rows_filled [] (y ∷ ys) f h k = absurd (omega arith)
rows_filled (x ∷ xs) [] f h k = absurd (omega arith)
rows_filled (x ∷ xs) (y ∷ ys) f h k = ap (λ z. z ∷ xs) (k 0 (omega arith))
    ∙ ap (λ l. f y ∷ l) (rows_filled xs ys f (omega arith) (λ i lt. k (suc i) (omega arith)))

-- a list whose entries are those of another, each by a function
pub is_mapped : {A B : Type 0} (f : A → B) (xs : List B) (ys : List A) (e : B) (d : A) → length xs ≡ length ys
    → ((k : ℕ) → k < length xs → get_or xs k e ≡ f (get_or ys k d)) → xs ≡ map f ys
is_mapped f [] [] e d h k = refl
is_mapped f [] (y ∷ ys) e d h k = absurd (omega arith)
is_mapped f (x ∷ xs) [] e d h k = absurd (omega arith)
is_mapped f (x ∷ xs) (y ∷ ys) e d h k = ap (λ z. z ∷ xs) (k 0 (omega arith))
    ∙ ap (λ l. f y ∷ l) (is_mapped f xs ys e d (omega arith) (λ i lt. k (suc i) (omega arith)))

-- one value at every place
pub map_same : {A B : Type 0} (xs : List A) (v : B) → map (λ _. v) xs ≡ replicate (length xs) v
map_same [] v = refl
map_same (x ∷ xs) v = ap (λ l. v ∷ l) (map_same xs v)

pub map_same_rows : {A B : Type 0} (rows : List (List A)) (v : B) (width : ℕ)
    → ((j : ℕ) → j < length rows → length (get_or rows j []) ≡ width)
    → map (map (λ _. v)) rows ≡ replicate (length rows) (replicate width v)
map_same_rows [] v width h = refl
map_same_rows (row ∷ rows) v width h =
    ap (λ r. r ∷ map (map (λ _. v)) rows) (map_same row v ∙ ap (λ n. replicate n v) (h 0 (omega arith)))
    ∙ ap (λ l. replicate width v ∷ l) (map_same_rows rows v width (λ j lt. h (suc j) (omega arith)))

-- what isn't in a set isn't in it with another number added
pub has-still_not : (marks : List Bool) (i j : ℕ) → (j ≡ i → ⊥) → has marks j ≡ false → has (set marks i true) j ≡ false
has-still_not marks i j apart h = set_anywhere (λ b. b ≡ false) marks i true false j (λ e. absurd (apart e)) h

-- a number in a set is below its bound
pub has-inside : (marks : List Bool) (i : ℕ) → has marks i ≡ true → i < length marks
has-inside [] i h = absurd (false≢true h)
has-inside (x ∷ xs) zero h = omega arith
has-inside (x ∷ xs) (suc i) h = let below = has-inside xs i h in omega arith

-- a set with a number taken out
pub has-removed : (marks : List Bool) (i j : ℕ) → has marks j ≡ false → has (set marks i false) j ≡ false
has-removed marks i j h = set_anywhere (λ b. b ≡ false) marks i false false j (λ _. refl) h

pub has-without : (marks others : List Bool) (i : ℕ)
    → has (without marks others) i ≡ (has marks i && not (has others i))
has-without [] others i = refl
has-without (m ∷ ms) [] i = sym (and_true (has (m ∷ ms) i))
  where
    and_true : (b : Bool) → (b && true) ≡ b
    and_true true = refl
    and_true false = refl
has-without (m ∷ ms) (o ∷ os) zero = refl
has-without (m ∷ ms) (o ∷ os) (suc i) = has-without ms os i

pub has-union_of : (marks others : List Bool) (i : ℕ) → has (union_of marks others) i ≡ (has marks i || has others i)
has-union_of [] others i = refl
has-union_of (m ∷ ms) [] i = sym (or_false (has (m ∷ ms) i))
  where
    or_false : (b : Bool) → (b || false) ≡ b
    or_false true = refl
    or_false false = refl
has-union_of (m ∷ ms) (o ∷ os) zero = refl
has-union_of (m ∷ ms) (o ∷ os) (suc i) = has-union_of ms os i

pub slots_without-at : (rs : List Retired) (marks : List Bool) (i : ℕ)
    → get_or (slots_without rs marks) i retire.No ≡ cond (has marks i) retire.No (get_or rs i retire.No)
slots_without-at [] marks i = sym (same_either (has marks i))
  where
    same_either : (b : Bool) → cond b retire.No retire.No ≡ retire.No
    same_either true = refl
    same_either false = refl
slots_without-at (r ∷ rs) [] i = refl
slots_without-at (r ∷ rs) (m ∷ ms) zero = refl
slots_without-at (r ∷ rs) (m ∷ ms) (suc i) = slots_without-at rs ms i

pub length-without : (marks others : List Bool) → length (without marks others) ≡ length marks
length-without [] others = refl
length-without (m ∷ ms) [] = refl
length-without (m ∷ ms) (o ∷ os) = ap suc (length-without ms os)

pub length-union_of : (marks others : List Bool) → length marks ≡ length others
    → length (union_of marks others) ≡ length marks
length-union_of [] others h = sym h
length-union_of (m ∷ ms) [] h = refl
length-union_of (m ∷ ms) (o ∷ os) h = ap suc (length-union_of ms os (omega arith))

pub length-slots_without : (rs : List Retired) (marks : List Bool) → length (slots_without rs marks) ≡ length rs
length-slots_without [] marks = refl
length-slots_without (r ∷ rs) [] = refl
length-slots_without (r ∷ rs) (m ∷ ms) = ap suc (length-slots_without rs ms)

-- a test that each number below a bound passes
pub each_below-at : (test : ℕ → Bool) (bound i : ℕ) → each_below bound test ≡ true → i < bound → test i ≡ true
each_below-at test bound i h inside = from 0 bound h i (zero-le {n = i}) (omega arith)
  where
    from : (a m : ℕ) → list_all test (range_with_len a m) ≡ true → (k : ℕ) → a ≤ k → k < a + m → test k ≡ true
    from a zero e k low high = absurd (omega arith)
    from a (suc m) e k low high =
        let parts = and_parts (test a) (list_all test (range_with_len (a + 1) m)) e in
        elim (cases_eq k a) as (λ _. test k ≡ true) [
          | inl here ↦ ap test here ∙ parts.0
          | inr there ↦ from (a + 1) m parts.1 k (omega arith) (omega arith)
        ]
