-- The options of a block (draft-ietf-opsawg-pcapng, section 3.5).
use Rattle.std.specs.Prelude.{ℕ, zero, suc, ◌+◌, ◌*◌, ◌/◌, ◌==◌, List, [], ◌∷◌, length, take, drop, nat_lt}
use Rattle.std.specs.Prelude.{if◌then◌else◌, Option, Some, None}
use Rattle.octets.specs.declared.endianness.Endianness.{Endianness}
use Rattle.octets.specs.Numbers.{ordered_number_at}
use Rattle.pcapng_reader.specs.declared.options.NextOption.{NextOption}
use Rattle.pcapng_reader.specs.declared.options.NextOption.TheVariants as Next

-- An option: its code, and its value.
pub record CodedValue : Type 0 where
  pub code : ℕ
  pub value : List ℕ

-- A length in octets, padded to a multiple of four.
abbrev pub padded_length : ℕ → ℕ
padded_length len = (len + 3) / 4 * 4

-- What some octets begin with: an option of this code, with a value of so many octets, which is padded; an option that
-- goes beyond the last of them; or no option, behind the last one. Code 0 ends the options, and so do fewer than four
-- octets.
unfoldable pub next_option : Endianness → List ℕ → NextOption
next_option order octets =
    let code = ordered_number_at order 0 2 octets in
    let len = ordered_number_at order 2 2 octets in
    if nat_lt (length octets) 4 then Next.Last
    else if code == 0 then Next.Last
    else if nat_lt (length octets) (4 + padded_length len) then Next.Beyond
    else Next.Coded code len

-- The options, one behind the other, of which the first begins behind the first `skip` octets. One that goes beyond the
-- last octet is not read: it ends the list, as `None`.
unfoldable pub options_from : Endianness → ℕ → List ℕ → List (Option CodedValue)
options_from order skip [] = []
options_from order (suc skip) (octet ∷ octets) = options_from order skip octets
options_from order zero (octet ∷ octets) =
    elim (next_option order (octet ∷ octets)) [
      | Next.Last ↦ []
      | Next.Beyond ↦ None ∷ []
      | Next.Coded code len ↦
          Some (record { code = code; value = take len (drop 4 (octet ∷ octets)) })
          ∷ options_from order (3 + padded_length len) octets
    ]

-- The options in these octets.
abbrev pub options_in : Endianness → List ℕ → List (Option CodedValue)
options_in order octets = options_from order 0 octets
