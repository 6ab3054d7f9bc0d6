-- A number has one numeral.
use Rattle.std.proofs.Common.{◌≡◌, ◌≢◌, ℕ, ◌<◌, ◌+◌, ◌-◌, ◌*◌, ◌/◌, ◌%◌, ◌^◌, ◌≤◌, inl, inr, zero, suc, Bool, true}
use Rattle.std.proofs.Common.{false, not, ◌&&◌, ◌||◌, List, [], ◌∷◌, ◌++◌, length, get_or, Some, None, cond, fold, refl}
use Rattle.std.proofs.Common.{sym, ◌∙◌, ap, arith, ltb, eqb, leb, decimal, length-append}
use Rattle.std.specs.List.{list_all}
use Rattle.std.proofs.lemmas.Bool.{false≢true, and_parts, and_from, not-true, le-leb, eqb-false, ne_eqb, ltb-true}
use Rattle.std.proofs.lemmas.Bool.{cases_lt}
use Rattle.std.proofs.lemmas.Option.{none-some, same_Some}
use Rattle.std.proofs.lemmas.List.Sums.{fold-append}
use Rattle.std.proofs.lemmas.List.Folds.{list_all-append}
use Rattle.std.proofs.lemmas.Fmt.{decimal_by_steps, decimal-digits_value}
use Rattle.std.proofs.lemmas.Str.Parse.{IsNumeralModel, numerals_by_fold}
use Rattle.std.proofs.Common.{rules}
use Rattle.pebr_schedule.specs.Numbers.{is_digit, is_numeral, value_of, number_of}
use Rattle.pebr_schedule.proofs.Values.{shifted, number_small, numeral_by}

-- digits that stand for a number, the first not 0 unless the number is
record IsNumeralOf (n : ℕ) (ds : List ℕ) : Type 0 where
  digits : list_all is_digit ds ≡ true
  some : 0 < length ds
  value : value_of ds ≡ n
  first : 1 ≤ n → get_or ds 0 0 ≢ 48
  single : n < 10 → length ds ≡ 1

digit_is : (d : ℕ) → d < 10 → is_digit (48 + d) ≡ true
digit_is d low = and_from (leb 48 (48 + d)) (leb (48 + d) 57) (le-leb 48 (48 + d) (omega arith))
    (le-leb (48 + d) 57 (omega arith))

front_kept : (ds es : List ℕ) → 0 < length ds → get_or (ds ++ es) 0 0 ≡ get_or ds 0 0
front_kept [] es h = absurd (omega arith)
front_kept (d ∷ ds) es h = refl

value_last : (ds : List ℕ) (d : ℕ) → value_of (ds ++ d ∷ []) ≡ value_of ds * 10 + (d - 48)
value_last ds d = fold-append shifted 0 ds (d ∷ [])

decimal_numeral : (n : ℕ) → n < 2 ^ 64 → IsNumeralOf n (decimal n)
decimal_numeral n low = decimal_by_steps IsNumeralOf one more n low
  where
    one : (m : ℕ) → m < 10 → IsNumeralOf m ((48 + m) ∷ [])
    one m small = record {
      digits = and_from (is_digit (48 + m)) true (digit_is m small) refl;
      some = omega arith;
      value = omega arith;
      first = λ h e. omega arith;
      single = λ _. refl;
    }

    more : (m : ℕ) (ds : List ℕ) → 10 ≤ m → IsNumeralOf (m / 10) ds → IsNumeralOf m (ds ++ ((48 + m % 10) ∷ []))
    more m ds large h = record {
      digits = list_all-append is_digit ds ((48 + m % 10) ∷ [])
          ∙ and_from (list_all is_digit ds) (is_digit (48 + m % 10) && true) h.digits
          (and_from (is_digit (48 + m % 10)) true (digit_is (m % 10) (omega arith)) refl);
      some = omega (arith, length-append ds ((48 + m % 10) ∷ []), h.some);
      value = value_last ds (48 + m % 10) ∙ (let v = h.value in omega arith);
      first = λ _ e. h.first (omega arith) (sym (front_kept ds ((48 + m % 10) ∷ []) h.some) ∙ e);
      single = λ small. absurd (omega arith);
    }

all_at : (ds : List ℕ) (k : ℕ) → list_all is_digit ds ≡ true → k < length ds → is_digit (get_or ds k 0) ≡ true
all_at [] k h inside = absurd (omega arith)
all_at (d ∷ ds) zero h inside = (and_parts (is_digit d) (list_all is_digit ds) h).0
all_at (d ∷ ds) (suc k) h inside = all_at ds k (and_parts (is_digit d) (list_all is_digit ds) h).1 (omega arith)

pub number_decimal : (n : ℕ) → n < 2 ^ 64 → number_of (decimal n) ≡ Some n
number_decimal n low =
    let h = decimal_numeral n low in
    let numeral : is_numeral (decimal n) ≡ true =
    numeral_by (decimal n) (λ k lt. all_at (decimal n) k h.digits lt) h.some
    ∙ (elim (cases_lt n 10) as (λ _. (eqb (length (decimal n)) 1 || not (eqb (get_or (decimal n) 0 0) 48)) ≡ true) [
      | inl small ↦ ap (λ m. eqb m 1 || not (eqb (get_or (decimal n) 0 0) 48)) (h.single small)
      | inr large ↦ ap (λ b. eqb (length (decimal n)) 1 || not b)
          (ne_eqb (get_or (decimal n) 0 0) 48 (h.first (omega arith))) ∙ or_true (eqb (length (decimal n)) 1)
    ]) in
    number_small (decimal n) numeral (let v = h.value in omega arith) ∙ ap (λ m. Some m) h.value
  where
    or_true : (b : Bool) → (b || true) ≡ true
    or_true true = refl
    or_true false = refl

own : IsNumeralModel (λ ds. list_all is_digit ds ≡ true) (λ ds. fold shifted 0 ds)
own = numerals_by_fold (λ ds. list_all is_digit ds ≡ true) (search rules) (λ n ds. fold shifted n ds) (search rules)

numeral_parts : (piece : List ℕ) → is_numeral piece ≡ true
    → (list_all is_digit piece ≡ true) × (0 < length piece) × (get_or piece 0 0 ≡ 48 → length piece ≡ 1)
numeral_parts [] h = absurd (false≢true h)
numeral_parts (d ∷ []) h = (and_from (is_digit d) true h refl, omega arith, λ _. refl)
numeral_parts (d ∷ e ∷ ds) h =
    let outer = and_parts (is_digit d && not (eqb d 48)) (list_all is_digit (e ∷ ds)) h in
    let inner = and_parts (is_digit d) (not (eqb d 48)) outer.0 in (
      and_from (is_digit d) (list_all is_digit (e ∷ ds)) inner.0 outer.1,
      omega arith,
      λ zero_first. absurd
          (eqb-false d 48 (not-true (eqb d 48) inner.1) zero_first),
    )

-- a piece that stands for a number is the number in decimal
pub decimal_number : (piece : List ℕ) (n : ℕ) → number_of piece ≡ Some n → (piece ≡ decimal n) × (n < 2 ^ 64)
decimal_number piece n h = pick (is_numeral piece) (ltb (value_of piece) (2 ^ 64)) refl refl h
  where
    pick : (a b : Bool) → is_numeral piece ≡ a → ltb (value_of piece) (2 ^ 64) ≡ b
        → cond (a && b) (Some (value_of piece)) None ≡ Some n → (piece ≡ decimal n) × (n < 2 ^ 64)
    pick true true numeral low e =
        let same : value_of piece ≡ n = same_Some (value_of piece) n e in
        let below = ltb-true (value_of piece) (2 ^ 64) low in
        let parts = numeral_parts piece numeral in
        (sym (decimal-digits_value own piece parts.0 parts.1 parts.2 below) ∙ ap decimal same, omega arith)
    pick true false numeral low e = absurd (none-some n e)
    pick false b numeral low e = absurd (none-some n e)

-- the bytes of a number are digits
pub decimal_digits : (n : ℕ) → n < 2 ^ 64 → list_all is_digit (decimal n) ≡ true
decimal_digits n low = (decimal_numeral n low).digits
