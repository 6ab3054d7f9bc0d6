-- Field specifiers (RFC 7011, section 3.2) and the template records that list them (sections 3.4.1 and 3.4.2).
use Rattle.std.specs.Prelude.{ℕ, zero, suc, ◌%◌, ◌==◌, ◌&&◌, ◌||◌, Bool, List, [], ◌∷◌, ◌++◌, length, Some, None}
use Rattle.std.specs.Prelude.{Result, Ok, Err, nat_lt, nat_le, if◌then◌else◌}
use Rattle.ipfix_model.specs.declared.fields.FieldSpec.{FieldSpec}
use Rattle.ipfix_model.specs.Fields.{least_length}
use Rattle.ipfix_reader.specs.declared.fault.StreamFault.{StreamFault}
use Rattle.ipfix_reader.specs.declared.fault.StreamFault.TheVariants.{BadTemplate, Withdrawal}
use Rattle.octets.specs.Outcome.{◌>>=◌}
use Rattle.ipfix_reader.specs.Part.{Part, behind}
use Rattle.octets.specs.Numbers.{number_at}

-- The upper bit of the element says that an enterprise number follows.
abbrev pub has_enterprise : List ℕ → Bool
has_enterprise bytes = nat_le 32768 (number_at 0 2 bytes)

-- The length of a field specifier.
abbrev pub specifier_length : List ℕ → ℕ
specifier_length bytes = if has_enterprise bytes then 8 else 4

-- The field that the specifier at the front of some bytes names.
abbrev pub field_of : List ℕ → FieldSpec
field_of bytes = record {
  element = number_at 0 2 bytes % 32768;
  length = number_at 2 2 bytes;
  enterprise = if has_enterprise bytes then Some (number_at 4 4 bytes) else None;
}

-- Fields, and the part behind their specifiers.
pub record Fields : Type 0 where
  pub fields : List FieldSpec
  pub rest : Part

-- So many fields, added to those before them; `beyond` is the fault where a specifier goes beyond the part's end.
abbrev pub fields_of : StreamFault → ℕ → List FieldSpec → Part → Result Fields StreamFault
fields_of beyond zero before part = Ok (record { fields = before; rest = part })
fields_of beyond (suc count) before part =
    if nat_lt (length part.bytes) (specifier_length part.bytes) then Err beyond
    else fields_of beyond count (before ++ field_of part.bytes ∷ []) (behind (specifier_length part.bytes) part)

-- The header of a template record has its number and the count of its fields; that of an options template record has
-- the count of its scope fields besides.
abbrev pub record_header : Bool → ℕ
record_header options = if options then 6 else 4

-- The header isn't one of a template: it isn't whole, its number is one of those for other sets, or the number of scope
-- fields isn't from 1 to the number of all fields.
abbrev pub is_bad_header : Bool → List ℕ → Bool
is_bad_header options bytes =
    nat_lt (length bytes) (record_header options) || nat_lt (number_at 0 2 bytes) 256
    || (options && ((number_at 4 2 bytes == 0) || nat_lt (number_at 2 2 bytes) (number_at 4 2 bytes)))

-- Fields of which a record takes no byte are no template.
abbrev pub nonempty_fields : StreamFault → Fields → Result Fields StreamFault
nonempty_fields empty fields = if least_length fields.fields == 0 then Err empty else Ok fields

-- The fields of the template record at the front of a part of four bytes or more. A count of 0 withdraws a template
-- (section 8.1).
unfoldable pub template_fields : Bool → Part → Result Fields StreamFault
template_fields options part =
    if number_at 2 2 part.bytes == 0 then Err (Withdrawal part.at)
    else if is_bad_header options part.bytes then Err (BadTemplate part.at)
    else fields_of (BadTemplate part.at) (number_at 2 2 part.bytes) [] (behind (record_header options) part)
    >>= nonempty_fields (BadTemplate part.at)
