-- The records of a set, up to the padding at its end (RFC 7011, section 3.3.1).
use Rattle.std.specs.Prelude.{ℕ, ◌++◌, Bool, List, [], ◌∷◌, length, Ok, Err, nat_lt, if◌then◌else◌}
use Rattle.ipfix_model.specs.declared.fields.FieldSpec.{FieldSpec}
use Rattle.ipfix_model.specs.declared.values.DataRecord.{DataRecord}
use Rattle.ipfix_model.specs.Fields.{least_length}
use Rattle.ipfix_reader.specs.declared.fault.StreamFault.TheVariants.{BadLength, BadPadding}
use Rattle.octets.specs.Outcome.{◌>>=◌}
use Rattle.ipfix_reader.specs.Part.{are_zeros}
use Rattle.octets.specs.Numbers.{number_at}
use Rattle.ipfix_reader.specs.Walk.{Reading, all_items}
use Rattle.ipfix_reader.specs.Values.{values_of}
use Rattle.ipfix_reader.specs.Specifiers.{template_fields}
use Rattle.ipfix_reader.specs.Known.{Templates, with_template}

-- What is left at the end of a set is padding: its bytes are 0.
abbrev pub padding_end : {S : Type 0} → Reading S
padding_end before part = if are_zeros part.bytes then Ok before else Err (BadPadding part.at)

-- A template record, or an options template record, of four bytes or more, or the padding. Behind it the template is
-- known.
abbrev pub template_record : Bool → ℕ → Reading Templates → Reading Templates
template_record options domain go_on before part =
    if nat_lt (length part.bytes) 4 then padding_end before part
    else template_fields options part
    >>= λ read. go_on (with_template before domain (number_at 0 2 part.bytes) read.fields) read.rest

-- A data record of a template with these fields, or the padding, which is shorter than any.
abbrev pub data_record : ℕ → ℕ → List FieldSpec → Reading (List DataRecord) → Reading (List DataRecord)
data_record domain number fields go_on before part =
    if nat_lt (length part.bytes) (least_length fields) then padding_end before part
    else values_of (BadLength part.at) fields [] part
    >>= λ read. go_on (before ++ record { domain = domain; template = number; fields = read.values } ∷ []) read.rest

-- The records of a set of template records, of options template records, and of data records.
unfoldable pub template_records : Bool → ℕ → Reading Templates
template_records options domain = all_items (template_record options domain)

unfoldable pub data_records : ℕ → ℕ → List FieldSpec → Reading (List DataRecord)
data_records domain number fields = all_items (data_record domain number fields)
