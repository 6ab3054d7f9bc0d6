-- The bytes of messages, sets and records (RFC 7011, sections 3.1 to 3.4). All numbers stand in network order.
use Rattle.std.specs.Prelude.{ℕ, ◌+◌, List, ◌++◌, length, flat_map, Option, Some, None}
use Rattle.octets.specs.Numbers.{octets_of}
use Rattle.ipfix_model.specs.declared.fields.FieldSpec.{FieldSpec}
use Rattle.ipfix_model.specs.Fields.{record_length}
use Rattle.ipfix_model.specs.Templates.{v4_fields, v6_fields, v4_template, v6_template, fields_of}
use Rattle.ipfix_model.specs.Values.{field_value, record_bytes}
use Rattle.record_ledger.specs.declared.record.FlowRecord.{FlowRecord}

-- A message header has 16 bytes: the version 10, the length of the message, the export time, the sequence number and
-- the observation domain 1 (section 3.1).
unfoldable pub message_header : ℕ → ℕ → ℕ → List ℕ
message_header size export_time sequence =
    octets_of 2 10 ++ (octets_of 2 size ++ (octets_of 4 export_time ++ (octets_of 4 sequence ++ octets_of 4 1)))

-- A message: its header, then its sets.
unfoldable pub message : ℕ → ℕ → List ℕ → List ℕ
message export_time sequence sets =
    message_header (16 + length sets) export_time sequence ++ sets

-- A set: its header of 4 bytes, which has its number and its length; then its records (section 3.3).
unfoldable pub set : ℕ → List ℕ → List ℕ
set number records = octets_of 2 number ++ (octets_of 2 (4 + length records) ++ records)

-- A field specifier: the element and the length of its values. That of an enterprise's element has its upper bit set,
-- and the enterprise number behind it (section 3.2).
abbrev pub specifier_in : Option ℕ → ℕ → ℕ → List ℕ
specifier_in None element size = octets_of 2 element ++ octets_of 2 size
specifier_in (Some enterprise) element size =
    octets_of 2 (32768 + element) ++ (octets_of 2 size ++ octets_of 4 enterprise)

unfoldable pub field_specifier : FieldSpec → List ℕ
field_specifier field = specifier_in field.enterprise field.element field.length

-- A template record: its number, the count of its fields, and their specifiers (section 3.4.1).
unfoldable pub template_record : ℕ → List FieldSpec → List ℕ
template_record number fields = octets_of 2 number ++ (octets_of 2 (length fields) ++ flat_map field_specifier fields)

-- The template records of both templates, and the first message: one set, numbered 2, that has them.
abbrev pub template_records : List ℕ
template_records = template_record v4_template v4_fields ++ template_record v6_template v6_fields

unfoldable pub template_message : ℕ → List ℕ
template_message export_time = message export_time 0 (set 2 template_records)

-- The data record of a flow record: the values of the fields of its template, in order (section 3.4.3).
unfoldable pub data_record : FlowRecord → List ℕ
data_record flow = record_bytes (field_value flow) (fields_of flow)

-- And its length.
abbrev pub record_size : FlowRecord → ℕ
record_size flow = record_length (fields_of flow)
