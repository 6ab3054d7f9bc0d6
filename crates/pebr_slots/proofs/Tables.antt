-- Lists that have a value for each slot of a table.
use Rattle.std.proofs.Common.{◌≡◌, ◌≢◌, ℕ, zero, suc, ◌+◌, ◌<◌, ◌≤◌, ◌⊎◌, inl, inr, Bool, true, not, ◌&&◌, ◌||◌, cond}
use Rattle.std.proofs.Common.{List, [], ◌∷◌, length, get_or, set, map, replicate, refl, sym, ap, ◌∙◌, subst, arith}
use Rattle.std.proofs.Common.{count_by, eqb}
use Rattle.std.specs.Prelude.{nat_le, nat_lt}
use Rattle.std.specs.List.{range_with_len, sum_by}
use Rattle.std.proofs.lemmas.Bool.{cases_lt}
use Rattle.std.proofs.lemmas.Bool.Decides.{nat_tests}
use Rattle.std.proofs.lemmas.List.{length-set, ext_get_or, get_or_past, get_or-set_same, get_or-set_other}
use Rattle.std.proofs.lemmas.List.FromFn.{get_or-map-range_with_len, length-map-range_with_len}
use Rattle.std.proofs.lemmas.List.Sums.{sum_by-cons}
use mathlib.Core.Logic.{dite}
use native.Mathlib.Decide.{ℕ_discrete}
use Rattle.pebr_core.specs.declared.kinds.Retired.{Retired}
use Rattle.pebr_core.specs.declared.kinds.Retired.TheVariants as retire
use Rattle.pebr_core.specs.Steps.{without, union_of, slots_without}
use Rattle.pebr_slots.specs.Shown.{times}
use Rattle.pebr_slots.proofs.Listing.{times_cons, one_if}

pub map_as : {A B : Type 0} (f g : A → B) → ((x : A) → f x ≡ g x) → (xs : List A) → map f xs ≡ map g xs
map_as f g each [] = refl
map_as f g each (x ∷ xs) = ap (λ y. y ∷ map f xs) (each x) ∙ ap (λ l. g x ∷ l) (map_as f g each xs)

pub map_to : {A B : Type 0} (f : A → B) (b : B) → ((x : A) → f x ≡ b) → (xs : List A)
    → map f xs ≡ replicate (length xs) b
map_to f b each [] = refl
map_to f b each (x ∷ xs) = ap (λ y. y ∷ map f xs) (each x) ∙ ap (λ l. b ∷ l) (map_to f b each xs)

pub map_twice : {A B C : Type 0} (g : B → C) (f : A → B) (xs : List A) → map g (map f xs) ≡ map (λ x. g (f x)) xs
map_twice g f [] = refl
map_twice g f (x ∷ xs) = ap (λ l. g (f x) ∷ l) (map_twice g f xs)

-- what stands at a slot
pub table_at : {A : Type 0} (f : ℕ → A) (slots slot : ℕ) (other : A) → (slots ≤ slot → f slot ≡ other)
    → get_or (map f (range_with_len 0 slots)) slot other ≡ f slot
table_at {A = A} f slots slot other past = pick (cases_lt slot slots)
  where
    pick : ((slot < slots) ⊎ (slots ≤ slot)) → get_or (map f (range_with_len 0 slots)) slot other ≡ f slot
    pick (inl near) = get_or-map-range_with_len f 0 slots slot slot other near (omega arith)
    pick (inr far) = get_or_past (map f (range_with_len 0 slots)) slot other
        (let e = length-map-range_with_len f 0 slots in omega (arith, e, far)) ∙ sym (past far)

-- another value at one slot
pub table_set : {A : Type 0} (f g : ℕ → A) (slots slot : ℕ) (value : A) → g slot ≡ value
    → ((other : ℕ) → other ≢ slot → g other ≡ f other)
    → map g (range_with_len 0 slots) ≡ set (map f (range_with_len 0 slots)) slot value
table_set {A = A} f g slots slot value here else =
    ext_get_or value (map g (range_with_len 0 slots)) (set (map f (range_with_len 0 slots)) slot value)
    (long g ∙ sym (length-set (map f (range_with_len 0 slots)) slot value ∙ long f))
    (λ k h. at g k (low k h) ∙ each k (low k h))
  where
    long : (h : ℕ → A) → length (map h (range_with_len 0 slots)) ≡ slots
    long h = length-map-range_with_len h 0 slots

    low : (k : ℕ) → k < length (map g (range_with_len 0 slots)) → k < slots
    low k h = let e = long g in omega (arith, e, h)

    at : (h : ℕ → A) (k : ℕ) → k < slots → get_or (map h (range_with_len 0 slots)) k value ≡ h k
    at h k lt = get_or-map-range_with_len h 0 slots k k value lt (omega arith)

    each : (k : ℕ) → k < slots → g k ≡ get_or (set (map f (range_with_len 0 slots)) slot value) k value
    each k lt = dite (ℕ_discrete k slot)
        (λ (same : k ≡ slot). subst (λ n. g n ≡ get_or (set (map f (range_with_len 0 slots)) slot value) n value)
        (sym same)
        (here ∙ sym
        (get_or-set_same (map f (range_with_len 0 slots)) slot value value
        (let e = long f in omega (arith, e, lt, same)))))
        (λ (apart : k ≢ slot).
        else k apart
        ∙ (sym (at f k lt) ∙ sym (get_or-set_other (map f (range_with_len 0 slots)) slot k value value apart)))

-- how many slots of the table pass a test

sum_same : {A : Type 0} (f g : A → ℕ) → ((x : A) → f x ≡ g x) → (xs : List A) → sum_by f xs ≡ sum_by g xs
sum_same f g each [] = refl
sum_same f g each (x ∷ xs) =
    let rest = sum_same f g each xs in
    let a = sum_by-cons f x xs in
    let b = sum_by-cons g x xs in
    let head = each x in
    omega (arith, rest, a, b, head)

sum_both : {A : Type 0} (f g : A → ℕ) (xs : List A) → sum_by (λ x. f x + g x) xs ≡ sum_by f xs + sum_by g xs
sum_both f g [] = refl
sum_both f g (x ∷ xs) =
    let rest = sum_both f g xs in
    let a = sum_by-cons f x xs in
    let b = sum_by-cons g x xs in
    let c = sum_by-cons (λ y. f y + g y) x xs in
    omega (arith, rest, a, b, c)

sum_none : {A : Type 0} (xs : List A) → sum_by (λ (x : A). 0) xs ≡ 0
sum_none [] = refl
sum_none (x ∷ xs) =
    let rest = sum_none xs in
    let a = sum_by-cons (λ y. 0) x xs in
    omega (arith, rest, a)

pub count_map : {A B : Type 0} (test : B → Bool) (f : A → B) (xs : List A)
    → count_by test (map f xs) ≡ count_by (λ x. test (f x)) xs
count_map test f [] = refl
count_map test f (x ∷ xs) =
    let rest = count_map test f xs in
    let a = sum_by-cons (λ y. cond (test y) 1 0) (f x) (map f xs) in
    let b = sum_by-cons (λ y. cond (test (f y)) 1 0) x xs in
    omega (arith, rest, a, b)

count_one : (slot first count : ℕ) → sum_by (λ other. cond (eqb slot other) 1 0) (range_with_len first count)
    ≡ cond (nat_le first slot && nat_lt slot (first + count)) 1 0
count_one slot first zero = grind (arith, nat_tests)
count_one slot first (suc count) =
    let rest = count_one slot (first + 1) count in
    let e = sum_by-cons (λ other. cond (eqb slot other) 1 0) first (range_with_len (first + 1) count) in
    grind (arith, nat_tests)

low_is_within : (slot slots : ℕ) → slot < slots → (nat_le 0 slot && nat_lt slot (0 + slots)) ≡ true
low_is_within slot slots h = grind (arith, nat_tests)

count_times : (slots : ℕ) (xs : List ℕ) → ((slot : ℕ) → 0 < times slot xs → slot < slots)
    → sum_by (λ slot. times slot xs) (range_with_len 0 slots) ≡ length xs
count_times slots [] low = sum_none (range_with_len 0 slots)
count_times slots (x ∷ xs) low =
    let rest = count_times slots xs (λ slot h. low slot (let e = times_cons slot x xs in omega (arith, e, h))) in
    let a = sum_same (λ slot. times slot (x ∷ xs)) (λ slot. cond (eqb x slot) 1 0 + times slot xs)
    (λ slot. times_cons slot x xs) (range_with_len 0 slots) in
    let b = sum_both (λ slot. cond (eqb x slot) 1 0) (λ slot. times slot xs) (range_with_len 0 slots) in
    let one = count_one x 0 slots ∙ one_if (low_is_within x slots (low x (here x))) in
    omega (arith, rest, a, b, one)
  where
    here : (x : ℕ) → 0 < times x (x ∷ xs)
    here x = let e = times_cons x x xs in let z : ◌≡◌ {A = ℕ} (cond (eqb x x) 1 0) 1 = grind (arith, nat_tests) in
        omega (arith, e, z)

pub count_table : {A : Type 0} (test : A → Bool) (f : ℕ → A) (slots : ℕ) (xs : List ℕ)
    → ((slot : ℕ) → cond (test (f slot)) 1 0 ≡ times slot xs) → ((slot : ℕ) → 0 < times slot xs → slot < slots)
    → count_by test (map f (range_with_len 0 slots)) ≡ length xs
count_table test f slots xs each low = count_map test f (range_with_len 0 slots)
    ∙ (sum_same (λ slot. cond (test (f slot)) 1 0) (λ slot. times slot xs) each (range_with_len 0 slots)
    ∙ count_times slots xs low)

-- what a Give makes of tables

pub without_map : {A : Type 0} (f g : A → Bool) (xs : List A)
    → without (map f xs) (map g xs) ≡ map (λ x. f x && not (g x)) xs
without_map f g [] = refl
without_map f g (x ∷ xs) = ap (λ l. (f x && not (g x)) ∷ l) (without_map f g xs)

pub united_map : {A : Type 0} (f g : A → Bool) (xs : List A) → union_of (map f xs) (map g xs) ≡ map (λ x. f x || g x) xs
united_map f g [] = refl
united_map f g (x ∷ xs) = ap (λ l. (f x || g x) ∷ l) (united_map f g xs)

pub released_map : {A : Type 0} (f : A → Retired) (g : A → Bool) (xs : List A)
    → slots_without (map f xs) (map g xs) ≡ map (λ x. cond (g x) retire.No (f x)) xs
released_map f g [] = refl
released_map f g (x ∷ xs) = ap (λ l. cond (g x) retire.No (f x) ∷ l) (released_map f g xs)
