-- Lines, pieces and numbers of a schedule.
use Rattle.std.specs.Prelude.{ℕ, ◌+◌, ◌*◌, ◌-◌, ◌^◌, Bool, false, not, ◌&&◌, List, [], ◌∷◌, Option, Some, None}
use Rattle.std.specs.Prelude.{option_map, option_and_then, if◌then◌else◌, ◌==◌, nat_lt, nat_le, fold}
use Rattle.std.specs.List.{list_all}

-- the byte is a digit, 0 to 9, in ASCII
abbrev pub is_digit : ℕ → Bool
is_digit byte = nat_le 48 byte && nat_le byte 57

-- decimal digits without a leading zero
abbrev pub is_numeral : List ℕ → Bool
is_numeral [] = false
is_numeral (digit ∷ []) = is_digit digit
is_numeral (digit ∷ other ∷ digits) = is_digit digit && not (digit == 48) && list_all is_digit (other ∷ digits)

-- what decimal digits stand for
abbrev pub value_of : List ℕ → ℕ
value_of digits = fold (λ number digit. number * 10 + (digit - 48)) 0 digits

-- a number: decimal digits without a leading zero, below 2 ^ 64
abbrev pub number_of : List ℕ → Option ℕ
number_of piece = if is_numeral piece && nat_lt (value_of piece) (2 ^ 64) then Some (value_of piece) else None

-- the numbers that the pieces stand for, where each is a number
abbrev pub numbers_of : List (List ℕ) → Option (List ℕ)
numbers_of [] = Some []
numbers_of (piece ∷ pieces) = option_and_then (λ number. option_map (λ numbers. number ∷ numbers) (numbers_of pieces))
    (number_of piece)

-- a byte before some pieces belongs to the first of them
abbrev pub with_front : ℕ → List (List ℕ) → List (List ℕ)
with_front byte [] = (byte ∷ []) ∷ []
with_front byte (piece ∷ pieces) = (byte ∷ piece) ∷ pieces

-- the pieces of a text between the places of a byte: one more than there are such places
abbrev pub pieces_of : ℕ → List ℕ → List (List ℕ)
pieces_of at [] = [] ∷ []
pieces_of at (byte ∷ bytes) = if byte == at then [] ∷ pieces_of at bytes else with_front byte (pieces_of at bytes)
