-- Interfaces (draft-ietf-opsawg-pcapng, section 4.2): the link type of their packets, and the unit and the offset of
-- their times.
use Rattle.std.specs.Prelude.{ℕ, ◌-◌, ◌^◌, ◌==◌, ◌&&◌, List, [], ◌∷◌, length, slice_range, nat_lt, nat_le}
use Rattle.std.specs.Prelude.{if◌then◌else◌, Option, Some, None, option_map, option_and_then}
use Rattle.octets.specs.declared.endianness.Endianness.{Endianness}
use Rattle.octets.specs.Numbers.{octet_at, ordered_number_at}
use Rattle.pcapng_reader.specs.declared.interface.Interface.{Interface}
use Rattle.pcapng_reader.specs.Options.{CodedValue, options_in}

-- The units of time in a second, by the octet of the option `if_tsresol`: 10^v, or 2^v where the upper bit is set. A
-- resolution of more than 10^18 or 2^62 units is bad.
abbrev pub units_of : ℕ → Option ℕ
units_of code =
    if nat_le code 18 then Some (10 ^ code)
    else if nat_le 128 code && nat_le code 190 then Some (2 ^ (code - 128))
    else None

-- The resolution, option 9, has one octet, and the offset, option 14, has eight. Any other option tells nothing here.
abbrev pub with_option : Endianness → Interface → CodedValue → Option Interface
with_option order interface told =
    if told.code == 9 then
    (if length told.value == 1
    then option_map (λ units. record interface { units = units }) (units_of (octet_at 0 told.value))
    else None)
    else if told.code == 14 then
    (if length told.value == 8
    then Some (record interface { offset = ordered_number_at order 0 8 told.value })
    else None)
    else Some interface

-- The interface that these options tell, one after the other: of several with one code the last counts. None where one
-- is bad.
abbrev pub with_options : Endianness → Interface → List (Option CodedValue) → Option Interface
with_options order interface [] = Some interface
with_options order interface (told ∷ others) =
    option_and_then (λ next. with_options order next others) (option_and_then (with_option order interface) told)

-- The interface that an interface description block tells: the link type stands at 8, and the options from 16 to the
-- second length. Without a resolution there are 1,000,000 units in a second, and without an offset it is 0.
unfoldable pub interface_told : Endianness → List ℕ → Option Interface
interface_told order part =
    if nat_lt (length part) 20 then None
    else with_options order (record { link = ordered_number_at order 8 2 part; units = 1000000; offset = 0 })
    (options_in order (slice_range part 16 (length part - 4)))
