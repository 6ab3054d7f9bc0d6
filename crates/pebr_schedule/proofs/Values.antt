-- What decimal digits stand for.
use Rattle.std.proofs.Common.{◌≡◌, ℕ, ◌<◌, ◌+◌, ◌-◌, ◌*◌, ◌^◌, ◌≤◌, zero, suc, Bool, true, false, not, ◌&&◌, ◌||◌, inl}
use Rattle.std.proofs.Common.{inr, List, [], ◌∷◌, length, get_or, take, drop, Some, None, cond, fold, refl, sym, ◌∙◌}
use Rattle.std.proofs.Common.{ap, arith, ltb, eqb, leb, take-append-drop, le_refl}
use Rattle.std.specs.List.{list_all}
use Rattle.std.proofs.lemmas.Bool.{false≢true, and_parts, ne_eqb, cases_Bool, le-ltb, lt-ltb, leb-true}
use Rattle.std.proofs.lemmas.List.Sums.{fold_more, fold-append}
use Rattle.pebr_schedule.specs.Numbers.{is_digit, is_numeral, value_of, number_of}

abbrev pub shifted : ℕ → ℕ → ℕ
shifted number digit = number * 10 + (digit - 48)

pub value_more : (digits : List ℕ) (i : ℕ) → i < length digits
    → value_of (take (i + 1) digits) ≡ value_of (take i digits) * 10 + (get_or digits i 0 - 48)
value_more digits i inside = fold_more shifted 0 digits i 0 inside

fold_rises : (a : ℕ) (digits : List ℕ) → a ≤ fold shifted a digits
fold_rises a [] = le_refl a
fold_rises a (d ∷ ds) = let rest = fold_rises (a * 10 + (d - 48)) ds in omega arith

-- a front of the digits stands for no more than all
pub value_front : (digits : List ℕ) (i : ℕ) → value_of (take i digits) ≤ value_of digits
value_front digits i =
    let split : fold shifted 0 digits ≡ fold shifted (fold shifted 0 (take i digits)) (drop i digits) =
    ap (fold shifted 0) (sym (take-append-drop i digits)) ∙ fold-append shifted 0 (take i digits) (drop i digits) in
    let rises = fold_rises (fold shifted 0 (take i digits)) (drop i digits) in
    omega (arith, split, rises)

all_digits : (digits : List ℕ) (i : ℕ) → list_all is_digit digits ≡ true → i < length digits
    → is_digit (get_or digits i 0) ≡ true
all_digits [] i h inside = absurd (omega arith)
all_digits (d ∷ ds) zero h inside = (and_parts (is_digit d) (list_all is_digit ds) h).0
all_digits (d ∷ ds) (suc i) h inside = all_digits ds i (and_parts (is_digit d) (list_all is_digit ds) h).1 (omega arith)

-- each byte of a numeral is a digit
pub numeral_digit : (piece : List ℕ) (i : ℕ) → is_numeral piece ≡ true → i < length piece
    → is_digit (get_or piece i 0) ≡ true
numeral_digit [] i h inside = absurd (omega arith)
numeral_digit (d ∷ []) zero h inside = h
numeral_digit (d ∷ []) (suc i) h inside = absurd (omega arith)
numeral_digit (d ∷ e ∷ ds) zero h inside =
    (and_parts (is_digit d) (not (eqb d 48))
    (and_parts (is_digit d && not (eqb d 48)) (list_all is_digit (e ∷ ds)) h).0).0
numeral_digit (d ∷ e ∷ ds) (suc i) h inside =
    all_digits (e ∷ ds) i (and_parts (is_digit d && not (eqb d 48)) (list_all is_digit (e ∷ ds)) h).1 (omega arith)

pub digit_low : (byte : ℕ) → is_digit byte ≡ true → 48 ≤ byte
digit_low byte h = leb-true 48 byte (and_parts (leb 48 byte) (leb byte 57) h).0

-- a numeral is a number, unless it stands for 2^64 or more
pub number_large : (piece : List ℕ) → 2 ^ 64 ≤ value_of piece → number_of piece ≡ None
number_large piece h = pick (is_numeral piece)
  where
    large : ltb (value_of piece) (2 ^ 64) ≡ false
    large = le-ltb (value_of piece) (2 ^ 64) h

    pick : (b : Bool) → cond (b && ltb (value_of piece) (2 ^ 64)) (Some (value_of piece)) None ≡ None
    pick true = ap (λ t. cond t (Some (value_of piece)) None) large
    pick false = refl

pub number_small : (piece : List ℕ) → is_numeral piece ≡ true → value_of piece < 2 ^ 64
    → number_of piece ≡ Some (value_of piece)
number_small piece h low =
    ap (λ t. cond (t && ltb (value_of piece) (2 ^ 64)) (Some (value_of piece)) None) h
    ∙ ap (λ t. cond t (Some (value_of piece)) None) (lt-ltb (value_of piece) (2 ^ 64) low)

every_digit : (digits : List ℕ) → ((k : ℕ) → k < length digits → is_digit (get_or digits k 0) ≡ true)
    → list_all is_digit digits ≡ true
every_digit [] h = refl
every_digit (d ∷ ds) h = ap (λ b. b && list_all is_digit ds) (h 0 (omega arith))
    ∙ every_digit ds (λ k lt. h (suc k) (omega arith))

-- digits are a numeral where there is one, or the first isn't 0
pub numeral_by : (piece : List ℕ) → ((k : ℕ) → k < length piece → is_digit (get_or piece k 0) ≡ true) → 0 < length piece
    → is_numeral piece ≡ (eqb (length piece) 1 || not (eqb (get_or piece 0 0) 48))
numeral_by [] h inside = absurd (omega arith)
numeral_by (d ∷ []) h inside = h 0 (omega arith)
numeral_by (d ∷ e ∷ ds) h inside =
    ap (λ b. b && not (eqb d 48) && list_all is_digit (e ∷ ds)) (h 0 (omega arith))
    ∙ (ap (λ b. not (eqb d 48) && b) (every_digit (e ∷ ds) (λ k lt. h (suc k) (omega arith)))
    ∙ (and_true (not (eqb d 48))
    ∙ sym (ap (λ b. b || not (eqb d 48)) (ne_eqb (length (d ∷ e ∷ ds)) 1 (λ k. omega arith)))))
  where
    and_true : (b : Bool) → (b && true) ≡ b
    and_true true = refl
    and_true false = refl

pub no_numeral : (piece : List ℕ) → length piece ≡ 0 → is_numeral piece ≡ false
no_numeral [] h = refl
no_numeral (d ∷ ds) h = absurd (omega arith)

pub not_numeral : (piece : List ℕ) → is_numeral piece ≡ false → number_of piece ≡ None
not_numeral piece h = ap (λ b. cond (b && ltb (value_of piece) (2 ^ 64)) (Some (value_of piece)) None) h

-- a piece with a byte that isn't a digit isn't a numeral
pub numeral_spoiled : (piece : List ℕ) (i : ℕ) → i < length piece → is_digit (get_or piece i 0) ≡ false
    → is_numeral piece ≡ false
numeral_spoiled piece i inside h = elim (cases_Bool (is_numeral piece)) as (λ _. is_numeral piece ≡ false) [
  | inl holds ↦ absurd (false≢true (sym h ∙ numeral_digit piece i holds inside))
  | inr fails ↦ fails
]
