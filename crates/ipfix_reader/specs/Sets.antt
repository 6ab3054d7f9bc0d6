-- The sets of a message (RFC 7011, section 3.3).
use Rattle.std.specs.Prelude.{ℕ, ◌==◌, ◌||◌, Bool, true, false, List, length, Option, Some, None, Ok, Err, nat_lt}
use Rattle.std.specs.Prelude.{if◌then◌else◌}
use Rattle.ipfix_model.specs.declared.fields.FieldSpec.{FieldSpec}
use Rattle.ipfix_model.specs.declared.values.DataRecord.{DataRecord}
use Rattle.ipfix_reader.specs.declared.fault.StreamFault.TheVariants.{BadLength, NoTemplate}
use Rattle.octets.specs.Outcome.{◌>>=◌}
use Rattle.ipfix_reader.specs.Part.{Part, behind, first_part}
use Rattle.octets.specs.Numbers.{number_at}
use Rattle.ipfix_reader.specs.Walk.{Reading, all_items}
use Rattle.ipfix_reader.specs.Known.{Templates, fields_in}
use Rattle.ipfix_reader.specs.Records.{template_records, data_records}

-- What sets give: the known templates, and the data records in their order.
pub record Contents : Type 0 where
  pub templates : Templates
  pub records : List DataRecord

-- The contents of a set of templates, behind its header.
abbrev pub template_set : Bool → ℕ → Reading Contents
template_set options domain before part =
    template_records options domain before.templates part
    >>= λ templates. Ok (record { templates = templates; records = before.records })

-- The contents of a data set whose template may be known, behind the header at the offset `at`.
abbrev pub data_set : ℕ → ℕ → ℕ → Option (List FieldSpec) → Reading Contents
data_set domain number at None before part = Err (NoTemplate at number)
data_set domain number at (Some fields) before part =
    data_records domain number fields before.records part
    >>= λ records. Ok (record { templates = before.templates; records = records })

-- The contents of a set, by its number: 2 for templates, 3 for options templates, 256 and above for the data records
-- of the template with that number. The others are reserved, and skipped.
unfoldable pub set_contents : ℕ → ℕ → ℕ → Reading Contents
set_contents domain number at before part =
    if number == 2 then template_set false domain before part
    else if number == 3 then template_set true domain before part
    else if nat_lt number 256 then Ok before
    else data_set domain number at (fields_in before.templates domain number) before part

-- The length of a set with its header: the number in bytes 2 and 3.
abbrev pub set_length : Part → ℕ
set_length part = number_at 2 2 part.bytes

-- The header isn't whole, or the length isn't one of a header up to what is left of the message.
abbrev pub is_bad_length : Part → Bool
is_bad_length part = nat_lt (length part.bytes) 4 || nat_lt (set_length part) 4 || nat_lt (length part.bytes)
    (set_length part)

-- A set, or the message's end.
abbrev pub message_set : ℕ → Reading Contents → Reading Contents
message_set domain go_on before part =
    if length part.bytes == 0 then Ok before
    else if is_bad_length part then Err (BadLength part.at)
    else set_contents domain (number_at 0 2 part.bytes) part.at before (behind 4 (first_part (set_length part) part))
    >>= λ after. go_on after (behind (set_length part) part)

-- The sets of a message, behind its header.
unfoldable pub message_sets : ℕ → Reading Contents
message_sets domain = all_items (message_set domain)
