-- The values of a data record (RFC 7011, sections 3.4.3 and 7).
use Rattle.std.specs.Prelude.{ℕ, ◌+◌, ◌==◌, List, [], ◌∷◌, ◌++◌, length, take, drop, Result, Ok, Err, nat_lt}
use Rattle.std.specs.Prelude.{if◌then◌else◌}
use Rattle.ipfix_model.specs.declared.fields.FieldSpec.{FieldSpec}
use Rattle.ipfix_model.specs.declared.values.FieldValue.{FieldValue}
use Rattle.ipfix_model.specs.Fields.{is_variable}
use Rattle.ipfix_reader.specs.declared.fault.StreamFault.{StreamFault}
use Rattle.ipfix_reader.specs.Part.{Part, behind}
use Rattle.octets.specs.Numbers.{octet_at, number_at}

-- The bytes in front of a value that give its length: none where the template gives it; else one byte below 255, or the
-- byte 255 and two more (section 7).
abbrev pub prefix_length : FieldSpec → List ℕ → ℕ
prefix_length field bytes = if is_variable field then (if octet_at 0 bytes == 255 then 3 else 1) else 0

-- The length of a value.
abbrev pub value_length : FieldSpec → List ℕ → ℕ
value_length field bytes =
    if is_variable field then (if octet_at 0 bytes == 255 then number_at 1 2 bytes else octet_at 0 bytes)
    else field.length

-- The length of both together.
abbrev pub coded_length : FieldSpec → List ℕ → ℕ
coded_length field bytes = prefix_length field bytes + value_length field bytes

-- The value of a field at the front of some bytes.
abbrev pub value_of : FieldSpec → List ℕ → FieldValue
value_of field bytes = record {
  element = field.element;
  enterprise = field.enterprise;
  value = take (value_length field bytes) (drop (prefix_length field bytes) bytes);
}

-- Values, and the part behind them.
pub record Values : Type 0 where
  pub values : List FieldValue
  pub rest : Part

-- The values of these fields, one behind the other, added to those before them; `beyond` is the fault where one goes
-- beyond the part's end.
abbrev pub values_of : StreamFault → List FieldSpec → List FieldValue → Part → Result Values StreamFault
values_of beyond [] before part = Ok (record { values = before; rest = part })
values_of beyond (field ∷ fields) before part =
    if nat_lt (length part.bytes) (coded_length field part.bytes) then Err beyond
    else values_of beyond fields (before ++ value_of field part.bytes ∷ [])
    (behind (coded_length field part.bytes) part)
