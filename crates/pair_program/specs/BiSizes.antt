-- The code's own: data records of one template are of one length, as the writer's trait for them says.
use Rattle.std.proofs.Common.{◌≡◌, ◌==◌, ℕ, Bool, true, false, length, if◌then◌else◌, Option, Some, None, refl, sym}
use Rattle.std.proofs.Common.{◌∙◌, arith}
use Rattle.record_ledger.specs.declared.record.FlowRecord.{FlowRecord}
use Rattle.ipfix_model.specs.Fields.{record_length}
use Rattle.ipfix_model.specs.Templates.{v4_template, v4_fields, v6_template, v6_fields, template_of, v4_bi_template}
use Rattle.ipfix_model.specs.Templates.{v4_bi_fields, v6_bi_template, v6_bi_fields, bi_template_of, bi_fields_of}
use Rattle.ipfix_model.specs.Values.{bi_field_value}
use Rattle.ipfix_model.specs.Sizes.{v4_record_length, v6_record_length, v4_bi_record_length, v6_bi_record_length}
use Rattle.ipfix_writer.specs.DataSizes.{length-record_bytes, length-data_record}
use Rattle.pair_program.specs.declared.biflow.Biflow.{Biflow}
use Rattle.pair_program.specs.BiLayout.{bi_record, encode_both, encode_biflow}

-- the template of a record over this version, with a reverse flow or without
abbrev pub template_by : Bool → Bool → ℕ
template_by both v4 = if both then (if v4 then v4_bi_template else v6_bi_template)
    else (if v4 then v4_template else v6_template)

abbrev pub length_by : Bool → Bool → ℕ
length_by both v4 = if both then (if v4 then v4_bi_record_length else v6_bi_record_length) else
    (if v4 then v4_record_length else v6_record_length)

sized_by : (both v4 both' v4' : Bool) → template_by both v4 ≡ template_by both' v4'
    → length_by both v4 ≡ length_by both' v4'
sized_by true true true true is = refl
sized_by true true true false is = absurd (omega arith)
sized_by true true false true is = absurd (omega arith)
sized_by true true false false is = absurd (omega arith)
sized_by true false true true is = absurd (omega arith)
sized_by true false true false is = refl
sized_by true false false true is = absurd (omega arith)
sized_by true false false false is = absurd (omega arith)
sized_by false true true true is = absurd (omega arith)
sized_by false true true false is = absurd (omega arith)
sized_by false true false true is = refl
sized_by false true false false is = absurd (omega arith)
sized_by false false true true is = absurd (omega arith)
sized_by false false true false is = absurd (omega arith)
sized_by false false false true is = absurd (omega arith)
sized_by false false false false is = refl

-- whether there is a reverse flow, and whether a flow is over IPv4
abbrev pub has_reverse : Option FlowRecord → Bool
has_reverse None = false
has_reverse (Some reverse) = true

abbrev pub is_v4 : FlowRecord → Bool
is_v4 flow = flow.part.key.version == 4

flow_length : (v4 : Bool) → record_length (if v4 then v4_fields else v6_fields)
    ≡ (if v4 then v4_record_length else v6_record_length)
flow_length true = refl
flow_length false = refl

bi_length : (v4 : Bool) → record_length (if v4 then v4_bi_fields else v6_bi_fields)
    ≡ (if v4 then v4_bi_record_length else v6_bi_record_length)
bi_length true = refl
bi_length false = refl

pub length-both : (forward : FlowRecord) (reverse : Option FlowRecord)
    → length (encode_both forward reverse).records ≡ length_by (has_reverse reverse) (is_v4 forward)
unfolding bi_record
length-both forward None = length-data_record forward ∙ flow_length (is_v4 forward)
length-both forward (Some reverse) = length-record_bytes (bi_field_value forward reverse) (bi_fields_of forward)
    ∙ bi_length (is_v4 forward)

template-both : (forward : FlowRecord) (reverse : Option FlowRecord)
    → (encode_both forward reverse).template ≡ template_by (has_reverse reverse) (is_v4 forward)
unfolding template_of bi_template_of
template-both forward None = refl
template-both forward (Some reverse) = refl

pub biflows_sized : (one other : Biflow) → (encode_biflow one).template ≡ (encode_biflow other).template
    → length (encode_biflow one).records ≡ length (encode_biflow other).records
biflows_sized one other is =
    length-both one.forward one.reverse
    ∙ sized_by (has_reverse one.reverse) (is_v4 one.forward) (has_reverse other.reverse) (is_v4 other.forward)
    (sym (template-both one.forward one.reverse) ∙ is ∙ template-both other.forward other.reverse)
    ∙ sym (length-both other.forward other.reverse)
