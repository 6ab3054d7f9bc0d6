-- The table at the start.
use Rattle.std.proofs.Common.{◌≡◌, ℕ, zero, suc, ◌+◌, ◌*◌, ◌<◌, ◌≤◌, cond, eqb, List, [], ◌∷◌, length, get_or}
use Rattle.std.proofs.Common.{replicate, sym, refl, ap, ◌∙◌, subst, arith, All}
use Rattle.std.specs.List.{range_with_len}
use Rattle.std.proofs.lemmas.List.{length-replicate}
use Rattle.std.proofs.lemmas.List.Elements.{All-nil, All-cons}
use Rattle.std.proofs.lemmas.Grind.{common_steps}
use Rattle.std.proofs.lemmas.List.Sums.{sum_by-cons}
use mathlib.Core.Logic.{dite}
use native.Mathlib.Decide.{ℕ_discrete}
use mathlib.Core.Option.{some, some-injective, some-ne-none}
use lib.ListN.{get_elem?}
use Rattle.atomic_table.specs.Table.{opening}
use Rattle.cache_face.specs.Keeping.{IsEmptyContent}
use Rattle.cache_face.specs.Laws.{IsUnused}
use Rattle.cache_face.specs.Notes.{Note, unused_note}
use Rattle.cache_face.proofs.Keeping.{keeps_opening}
use Rattle.turn_cache.specs.declared.rule.Told.{Told}
use Rattle.turn_cache.specs.Hands.{Hand, new_hand, times, once_below}
use Rattle.turn_cache.specs.Ruled.{Ruled, Fits}

pub zero_at : (n k : ℕ) → ◌≡◌ {A = ℕ} (get_or (replicate n 0) k 0) 0
zero_at zero k = refl
zero_at (suc n) zero = refl
zero_at (suc n) (suc k) = zero_at n k

row_at : (n k : ℕ) (row : List ℕ) → k < n → get_or (replicate n row) k [] ≡ row
row_at zero k row low = absurd (omega (arith, low))
row_at (suc n) zero row low = refl
row_at (suc n) (suc k) row low = row_at n k row (omega (arith, low))

all_rows : {A : Type 0} (P : A → Type 0) (n : ℕ) (a : A) → P a → All P (replicate n a)
all_rows P zero a p = All-nil P
all_rows P (suc n) a p = All-cons P a (replicate n a) p (all_rows P n a p)

-- how often a number stands in a range
below_range : (x a n : ℕ) → x < a → times x (range_with_len a n) ≡ 0
below_range x a zero low = refl
below_range x a (suc n) low =
    let rest = below_range x (a + 1) n (omega (arith, low)) in
    let first : ◌≡◌ {A = ℕ} (cond (eqb a x) 1 0) 0 = grind (arith, common_steps) in omega (arith, rest, first)

in_range : (x a n : ℕ) → a ≤ x → times x (range_with_len a n) ≡ once_below x (a + n)
in_range x a zero low = grind (arith, common_steps)
in_range x a (suc n) low = dite (ℕ_discrete a x)
    (λ same. let rest = below_range x (a + 1) n (omega (arith, same)) in
    let first : ◌≡◌ {A = ℕ} (cond (eqb a x) 1 0) 1 = grind (arith, common_steps) in
    let last : once_below x (a + suc n) ≡ 1 = grind (arith, common_steps) in omega (arith, rest, first, last))
    (λ other. let rest = in_range x (a + 1) n (omega (arith, low, other)) in
    let first : ◌≡◌ {A = ℕ} (cond (eqb a x) 1 0) 0 = grind (arith, common_steps) in
    let last : once_below x (a + suc n) ≡ once_below x (a + 1 + n) =
    ap (once_below x) (let e : a + suc n ≡ a + 1 + n = omega arith in e) in omega (arith, rest, first, last))

pub length_range : (a n : ℕ) → length (range_with_len a n) ≡ n
length_range a zero = refl
length_range a (suc n) = ap suc (length_range (a + 1) n)

pub opens : (told : Told) → 1 ≤ told.sets → told.sets ≤ 65536 → told.seats ≤ 64
    → Ruled told
    (opening (replicate (64 * told.sets) 0) [] (new_hand (range_with_len 0 told.seats) (unused_note told.seats)))
opens told some_sets few_sets few_seats =
    let row : List ℕ = replicate 10 0 in
    let contents : List (List ℕ) = replicate (4 * told.sets) row in
    let hand : Hand = new_hand (range_with_len 0 told.seats) (unused_note told.seats) in
    let long = length_range 0 told.seats in
    record {
      contents = contents;
      small = (some_sets, few_sets, few_seats);
      wide = length-replicate {A = ℕ} (64 * told.sets) 0;
      many = length-replicate {A = List ℕ} (4 * told.sets) row;
      ten = λ c low. ap length (row_at (4 * told.sets) c row low);
      turns = λ q low. (let z = zero_at (64 * told.sets) (64 * q) in omega (arith, z));
      once = λ q. omega arith;
      settled = λ q p k low low' low'' none. ap (λ r. get_or r k 0)
          (row_at (4 * told.sets) (4 * q + p) row (omega (arith, low, low')))
          ∙ (zero_at 10 k ∙ sym (zero_at (64 * told.sets) (64 * q + 16 + (10 * p + k))));
      numbers =
          λ n. (let r : times n (range_with_len 0 told.seats) ≡ once_below n (0 + told.seats) =
          in_range n 0 told.seats (omega arith) in
          let e : once_below n (0 + told.seats) ≡ once_below n told.seats =
          ap (once_below n) (let z : 0 + told.seats ≡ told.seats = omega arith in z) in omega (arith, r, e));
      seats = omega arith;
      each = λ j u e. first_fits hand long j u e;
      kept = keeps_opening told.timeouts told.sets contents (unused_note told.seats ∷ [])
          (length-replicate {A = List ℕ} (4 * told.sets) row) (all_rows IsEmptyContent (4 * told.sets) row refl)
          (All-cons IsUnused (unused_note told.seats) [] (refl, refl, refl) (All-nil IsUnused))
          (let s = sum_by-cons (λ (note : Note). note.seats) (unused_note told.seats) [] in
          omega (arith, s, few_seats));
    }
  where
    first_fits : (hand : Hand) → length (range_with_len 0 told.seats) ≡ told.seats → (j : ℕ) (u : Hand)
        → get_elem? (new_hand (range_with_len 0 told.seats) (unused_note told.seats) ∷ []) j ≡ some u
        → Fits told.sets (replicate (64 * told.sets) 0) (replicate (4 * told.sets) (replicate 10 0)) u
    first_fits hand long zero u e =
        subst (Fits told.sets (replicate (64 * told.sets) 0) (replicate (4 * told.sets) (replicate 10 0)))
        (some-injective (new_hand (range_with_len 0 told.seats) (unused_note told.seats)) u e)
        record { seats = sym long; gone = λ none. (refl, refl, refl); live = tt; turn = tt }
    first_fits hand long (suc j) u e = absurd (some-ne-none u (sym e))
