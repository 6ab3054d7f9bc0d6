-- The code's own: data records of one template are of one length, as the code's trait for them says.
use Rattle.std.proofs.Common.{◌≡◌, ◌+◌, ◌==◌, ℕ, Bool, true, false, List, [], ◌∷◌, length, if◌then◌else◌, refl, sym, ap}
use Rattle.std.proofs.Common.{◌∙◌, arith, length-append}
use Rattle.std.proofs.lemmas.List.Sums.{sum_by-cons}
use Rattle.byteorder.specs.Numbers.{length-bytes_high_first}
use Rattle.octets.specs.Numbers.{octets_of}
use Rattle.record_ledger.specs.declared.record.FlowRecord.{FlowRecord}
use Rattle.ipfix_model.specs.declared.fields.FieldSpec.{FieldSpec}
use Rattle.ipfix_model.specs.Fields.{record_length}
use Rattle.ipfix_model.specs.Templates.{v4_template, v4_fields, v6_template, v6_fields, template_of}
use Rattle.ipfix_model.specs.Values.{field_value, record_bytes}
use Rattle.ipfix_writer.specs.Encoding.{data_record, record_size}

pub length-octets : (n x : ℕ) → length (octets_of n x) ≡ n
length-octets n x = length-bytes_high_first n x

-- the values of fields are as long as the fields together
pub length-record_bytes : (value : FieldSpec → ℕ) (fields : List FieldSpec)
    → length (record_bytes value fields) ≡ record_length fields
length-record_bytes value [] = refl
length-record_bytes value (field ∷ fields) =
    length-append (octets_of field.length (value field)) (record_bytes value fields)
    ∙ ap (λ n. n + length (record_bytes value fields)) (length-octets field.length (value field))
    ∙ ap (λ n. field.length + n) (length-record_bytes value fields)
    ∙ sym (sum_by-cons (λ (f : FieldSpec). f.length) field fields)

pub length-data_record : (flow : FlowRecord) → length (data_record flow) ≡ record_size flow
unfolding data_record
length-data_record flow = length-record_bytes (field_value flow)
    (if flow.part.key.version == 4 then v4_fields else v6_fields)

-- records of one template are of one length
size_by_version : (one other : Bool) → (if one then v4_template else v6_template)
    ≡ (if other then v4_template else v6_template)
    → record_length (if one then v4_fields else v6_fields) ≡ record_length (if other then v4_fields else v6_fields)
size_by_version true true is = refl
size_by_version true false is = absurd (omega arith)
size_by_version false true is = absurd (omega arith)
size_by_version false false is = refl

pub size_by_template : (one other : FlowRecord) → template_of one ≡ template_of other
    → length (data_record one) ≡ length (data_record other)
unfolding template_of
size_by_template one other is =
    let same = size_by_version (one.part.key.version == 4) (other.part.key.version == 4) is in
    omega (arith, same, length-data_record one, length-data_record other)
