-- How often lists have slots, and the falling list of the fresh ones.
use Rattle.std.proofs.Common.{◌≡◌, ◌≢◌, ℕ, zero, suc, ◌+◌, ◌<◌, ◌≤◌, ◌-◌, ◌⊎◌, inl, inr, Bool, true, false, ◌&&◌, ◌||◌}
use Rattle.std.proofs.Common.{cond, List, [], ◌∷◌, ◌++◌, length, get_or, take, reverse, refl, sym, ap, ◌∙◌, subst}
use Rattle.std.proofs.Common.{arith, eqb}
use Rattle.std.specs.Prelude.{nat_le, nat_lt}
use Rattle.std.specs.List.{range_with_len, remove, list_any}
use Rattle.std.specs.List.Sorted.{IsNonDecreasing}
use Rattle.std.proofs.lemmas.Bool.{false≢true, eq-eqb, ne_eqb, cases_lt}
use Rattle.std.proofs.lemmas.Bool.Decides.{nat_tests}
use Rattle.std.proofs.lemmas.List.{append-nil, drop_all, length-reverse, get_or-reverse, map-id}
use Rattle.std.proofs.lemmas.List.FromFn.{map-range_with_len_more}
use Rattle.std.proofs.lemmas.List.Edits.{length-remove, get_or-remove_below, get_or-remove_above}
use Rattle.std.proofs.lemmas.List.Sums.{sum_by-cons}
use mathlib.Core.Logic.{dite}
use native.Mathlib.Decide.{ℕ_discrete}
use Rattle.pebr_core.specs.State.{has}
use Rattle.pebr_slots.specs.Sets.{least_in}
use Rattle.pebr_slots.specs.Shown.{times, is_in, AreFalling}

pub times_cons : (slot x : ℕ) (xs : List ℕ) → times slot (x ∷ xs) ≡ cond (eqb x slot) 1 0 + times slot xs
times_cons slot x xs = sum_by-cons (λ y. cond (eqb y slot) 1 0) x xs

pub one_if : {b : Bool} → b ≡ true → ◌≡◌ {A = ℕ} (cond b 1 0) 1
one_if h = ap (λ b. cond b 1 0) h

pub none_if : {b : Bool} → b ≡ false → ◌≡◌ {A = ℕ} (cond b 1 0) 0
none_if h = ap (λ b. cond b 1 0) h

pub in_some : (n : ℕ) → 0 < n → nat_lt 0 n ≡ true
in_some n h = grind (arith, nat_tests)

pub in_none : (n : ℕ) → n ≡ 0 → nat_lt 0 n ≡ false
in_none n h = ap (nat_lt 0) h

pub of_in : (n : ℕ) → nat_lt 0 n ≡ true → 0 < n
of_in zero h = absurd (false≢true h)
of_in (suc n) h = omega arith

pub of_out : (n : ℕ) → nat_lt 0 n ≡ false → n ≡ 0
of_out n h = grind (arith, nat_tests)

lt_of_sum : (b : Bool) (n : ℕ) → nat_lt 0 (cond b 1 0 + n) ≡ (b || nat_lt 0 n)
lt_of_sum true n = in_some (1 + n) (omega arith)
lt_of_sum false n = ap (nat_lt 0) (let e : 0 + n ≡ n = omega arith in e)

pub in_cons : (slot x : ℕ) (xs : List ℕ) → is_in slot (x ∷ xs) ≡ (eqb x slot || is_in slot xs)
in_cons slot x xs = ap (nat_lt 0) (times_cons slot x xs) ∙ lt_of_sum (eqb x slot) (times slot xs)

-- `contains` tells it
pub any_is_in : (slot : ℕ) (xs : List ℕ) → list_any (λ y. eqb y slot) xs ≡ is_in slot xs
any_is_in slot [] = refl
any_is_in slot (x ∷ xs) = ap (λ b. eqb x slot || b) (any_is_in slot xs) ∙ sym (in_cons slot x xs)

-- a slot that a list has stands at some place
pub listed : (slot : ℕ) (slots : List ℕ) → 0 < times slot slots
    → (place : ℕ) × (place < length slots) × (get_or slots place 0 ≡ slot)
listed slot [] h = absurd (omega (arith, h))
listed slot (x ∷ xs) h = dite (ℕ_discrete x slot)
    (λ (same : x ≡ slot). (0, omega arith, same))
    (λ (apart : x ≢ slot).
    let rest : 0 < times slot xs =
    (let e = times_cons slot x xs in let z = none_if (ne_eqb x slot apart) in omega (arith, e, z, h)) in
    let there = listed slot xs rest in
    let near = there.1 in (
      there.0 + 1,
      omega (arith, near),
      subst (λ n. get_or (x ∷ xs) n 0 ≡ slot)
          (let e : suc there.0 ≡ there.0 + 1 = omega arith in e) there.2,
    ))

-- what stands nowhere in a list
absent : (slot : ℕ) (slots : List ℕ) → ((k : ℕ) → k < length slots → get_or slots k 0 ≢ slot) → times slot slots ≡ 0
absent slot [] h = refl
absent slot (x ∷ xs) h =
    let rest = absent slot xs (λ k lt. h (suc k) (omega (arith, lt))) in
    let e = times_cons slot x xs in
    let z = none_if (ne_eqb x slot (h 0 (omega arith))) in
    omega (arith, e, z, rest)

pub present : (slot : ℕ) (slots : List ℕ) (k : ℕ) → k < length slots → get_or slots k 0 ≡ slot → 0 < times slot slots
present slot [] k lt is = absurd (omega (arith, lt))
present slot (x ∷ xs) zero lt is =
    let e = times_cons slot x xs in
    let z = one_if (eq-eqb x slot is) in
    omega (arith, e, z)
present slot (x ∷ xs) (suc k) lt is =
    let rest = present slot xs k (omega (arith, lt)) is in
    let e = times_cons slot x xs in
    omega (arith, e, rest)

-- the last of a falling list is the least slot of the set

least_is : (fresh : List Bool) (slot : ℕ) → has fresh slot ≡ true
    → ((other : ℕ) → has fresh other ≡ true → slot ≤ other) → slot ≡ least_in fresh
least_is [] slot is low = absurd (false≢true is)
least_is (true ∷ marks) slot is low = (let l = low 0 refl in omega (arith, l))
least_is (false ∷ marks) zero is low = absurd (false≢true is)
least_is (false ∷ marks) (suc slot) is low =
    ap suc (least_is marks slot is (λ other h. let l = low (suc other) h in omega (arith, l)))

pub last_is_least : (fresh : List Bool) (slots : List ℕ) → ((slot : ℕ) → has fresh slot ≡ is_in slot slots)
    → AreFalling slots → (k : ℕ) → k + 1 ≡ length slots → get_or slots k 0 ≡ least_in fresh
last_is_least fresh slots h falling k last = least_is fresh (get_or slots k 0)
    (h (get_or slots k 0) ∙ in_some (times (get_or slots k 0) slots)
    (present (get_or slots k 0) slots k (omega arith) refl))
    (λ other is.
    let there = listed other slots (of_in (times other slots) (sym (h other) ∙ is)) in
    let near = there.1 in
    subst (λ n. get_or slots k 0 ≤ n) there.2 (falling there.0 k (omega (arith, near)) (omega arith)))

pub falling_without : (slots : List ℕ) (place : ℕ) → place < length slots → AreFalling slots
    → AreFalling (remove slots place)
falling_without slots place inside falling i j le lt = pick (cases_lt i place) (cases_lt j place)
  where
    long : length (remove slots place) + 1 ≡ length slots
    long = length-remove slots place inside

    pick : ((i < place) ⊎ (place ≤ i)) → ((j < place) ⊎ (place ≤ j))
        → get_or (remove slots place) j 0 ≤ get_or (remove slots place) i 0
    pick (inl a) (inl b) = subst (λ n. n ≤ get_or (remove slots place) i 0)
        (sym (get_or-remove_below slots place 0 j b inside))
        (subst (λ n. get_or slots j 0 ≤ n) (sym (get_or-remove_below slots place 0 i a inside))
        (falling i j le (omega arith)))
    pick (inl a) (inr b) = subst (λ n. n ≤ get_or (remove slots place) i 0)
        (sym (get_or-remove_above slots place 0 j b inside))
        (subst (λ n. get_or slots (j + 1) 0 ≤ n) (sym (get_or-remove_below slots place 0 i a inside))
        (falling i (j + 1) (omega arith) (omega (arith, long, lt))))
    pick (inr a) (inl b) = absurd (omega arith)
    pick (inr a) (inr b) = subst (λ n. n ≤ get_or (remove slots place) i 0)
        (sym (get_or-remove_above slots place 0 j b inside))
        (subst (λ n. get_or slots (j + 1) 0 ≤ n) (sym (get_or-remove_above slots place 0 i a inside))
        (falling (i + 1) (j + 1) (omega arith) (omega (arith, long, lt))))

pub remove_last : (slots : List ℕ) (place : ℕ) → place + 1 ≡ length slots → remove slots place ≡ take place slots
remove_last slots place last = ap (λ l. take place slots ++ l) (drop_all (suc place) slots (omega (arith, last)))
    ∙ append-nil (take place slots)

pub falling_reversed : (slots : List ℕ) → IsNonDecreasing slots → AreFalling (reverse slots)
falling_reversed slots rising i j le lt =
    let e = length-reverse slots in
    subst (λ n. n ≤ get_or (reverse slots) i 0) (sym (get_or-reverse slots j 0 (omega (arith, e, lt))))
    (subst (λ n. get_or slots (length slots - 1 - j) 0 ≤ n) (sym (get_or-reverse slots i 0 (omega (arith, e, lt))))
    (rising (length slots - 1 - j) (length slots - 1 - i) 0 (omega (arith, e, lt)) (omega (arith, e, lt))))

pub times_range : (first count slot : ℕ)
    → times slot (range_with_len first count) ≡ cond (nat_le first slot && nat_lt slot (first + count)) 1 0
times_range first zero slot = grind (arith, nat_tests)
times_range first (suc count) slot =
    let rest = times_range (first + 1) count slot in
    let e = times_cons slot first (range_with_len (first + 1) count) in
    grind (arith, nat_tests)

-- a slot that is in a list and not in the rest of it from a place on stands before that place
pub must_go_on : (slots : List ℕ) (slot place : ℕ) → 0 < times slot slots
    → ((k : ℕ) → place < k → k < length slots → get_or slots k 0 ≢ slot) → get_or slots place 0 ≢ slot → 1 ≤ place
must_go_on slots slot zero has past ne = absurd (let none = absent slot slots each in omega (arith, none, has))
  where
    each : (k : ℕ) → k < length slots → get_or slots k 0 ≢ slot
    each zero lt = ne
    each (suc k) lt = past (suc k) (omega arith) lt
must_go_on slots slot (suc place) has past ne = omega arith

-- one number more
pub range_more : (from count : ℕ) → range_with_len from count ++ (from + count) ∷ [] ≡ range_with_len from (count + 1)
range_more from count =
    let e = map-range_with_len_more (λ n. n) from count (from + count) refl in
    ap (λ l. l ++ (from + count) ∷ []) (sym (map-id (range_with_len from count)))
    ∙ (sym e ∙ map-id (range_with_len from (count + 1)))
