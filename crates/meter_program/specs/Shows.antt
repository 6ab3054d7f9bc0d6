-- Data records as text: a line for each, with its template and then its fields.
use Rattle.std.specs.Prelude.{ℕ, ◌==◌, ◌&&◌, nat_le, if◌then◌else◌, List, ◌++◌, length, map, flat_map, Option, Some}
use Rattle.std.specs.Prelude.{None, is_none, codes, decimal}
use Rattle.octets.specs.Numbers.{number_at}
use Rattle.hex.specs.Hex.{encode_lower}
use Rattle.std.specs.List.{join_with_byte}
use Rattle.ipfix_model.specs.Elements.{abstract_type}
use Rattle.ipfix_model.specs.declared.elements.AbstractType.{AbstractType}
use Rattle.ipfix_model.specs.declared.elements.AbstractType.TheVariants.{Unsigned8, Unsigned16, Unsigned64, Ipv4Address}
use Rattle.ipfix_model.specs.declared.elements.AbstractType.TheVariants.{Ipv6Address, DateTimeMilliseconds}
use Rattle.ipfix_model.specs.declared.values.DataRecord.{DataRecord}
use Rattle.ipfix_model.specs.declared.values.FieldValue.{FieldValue}

-- A number of one to eight octets in decimal; any other value in hexadecimal.
abbrev pub number_text : List ℕ → List ℕ
number_text value =
    if nat_le 1 (length value) && nat_le (length value) 8 then decimal (number_at 0 (length value) value)
    else encode_lower value

-- An address of four octets as four decimal numbers joined by points; any other value in hexadecimal.
abbrev pub address_text : List ℕ → List ℕ
address_text value = if length value == 4 then join_with_byte 46 (map decimal value) else encode_lower value

-- The value of an element of IANA's, by its abstract data type.
abbrev pub typed_text : Option AbstractType → List ℕ → List ℕ
typed_text (Some Unsigned8) value = number_text value
typed_text (Some Unsigned16) value = number_text value
typed_text (Some Unsigned64) value = number_text value
typed_text (Some DateTimeMilliseconds) value = number_text value
typed_text (Some Ipv4Address) value = address_text value
typed_text (Some Ipv6Address) value = encode_lower value
typed_text None value = encode_lower value

unfoldable pub iana_text : ℕ → List ℕ → List ℕ
iana_text element value = typed_text (abstract_type element) value

-- A value: that of an enterprise's element is written in hexadecimal.
unfoldable pub value_text : FieldValue → List ℕ
value_text field = if is_none field.enterprise then iana_text field.element field.value else encode_lower field.value

-- The name of an element: its number, behind the number of its enterprise and a point where it is an enterprise's.
unfoldable pub name_text : Option ℕ → ℕ → List ℕ
name_text None element = decimal element
name_text (Some enterprise) element = decimal enterprise ++ (codes "." ++ decimal element)

-- A field: a space, its name, an equals sign and its value.
unfoldable pub field_text : FieldValue → List ℕ
field_text field = codes " " ++ (name_text field.enterprise field.element ++ (codes "=" ++ value_text field))

-- The line of a record: the number of its template, its fields, and the end of the line.
unfoldable pub line_of : DataRecord → List ℕ
line_of shown = decimal shown.template ++ (flat_map field_text shown.fields ++ codes "\n")

-- The text of records: their lines in order.
abbrev pub text_of : List DataRecord → List ℕ
text_of records = flat_map line_of records
