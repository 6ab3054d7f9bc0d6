-- Lengths of fields and records (RFC 7011, sections 3.4.1 and 7).
use Rattle.std.specs.Prelude.{ℕ, Bool, ◌==◌, if◌then◌else◌, List, sum_by}
use Rattle.ipfix_model.specs.declared.fields.FieldSpec.{FieldSpec}

-- the length 65535 announces a field of variable length
abbrev pub is_variable : FieldSpec → Bool
is_variable field = field.length == 65535

-- the fewest bytes that a field takes: a variable one has at least its length byte
abbrev pub field_least : FieldSpec → ℕ
field_least field = if is_variable field then 1 else field.length

-- the fewest bytes that a record of these fields takes
abbrev pub least_length : List FieldSpec → ℕ
least_length fields = sum_by field_least fields

-- the bytes that a record of these fields takes, where none is variable
abbrev pub record_length : List FieldSpec → ℕ
record_length fields = sum_by (λ (field : FieldSpec). field.length) fields
