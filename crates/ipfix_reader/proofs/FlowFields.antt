-- A flow record is known by its fields.
use Rattle.std.proofs.Common.{◌≡◌, ◌<◌, ◌^◌, List, true, false, Option, Some, None, refl, sym, ap, subst, ◌∙◌}
use Rattle.std.specs.Option.{option_and_then}
use native.Mathlib.Decide.{dec_lt}
use Rattle.flow_parts.specs.declared.fragment.Fragment.{Fragment}
use Rattle.flow_parts.specs.Fields.{IsPartOf}
use Rattle.flow_parts.specs.PartWith.{part_with}
use Rattle.flow_parts.proofs.PartFields.{same_part_fields, part_fields_fit, part_with-is}
use Rattle.record_ledger.specs.declared.record.FlowRecord.{FlowRecord}
use Rattle.ipfix_model.specs.declared.values.FieldValue.{FieldValue}
use Rattle.ipfix_model.specs.declared.values.DataRecord.{DataRecord}
use Rattle.ipfix_model.specs.Elements.{source_ipv4_address, destination_ipv4_address, source_ipv6_address}
use Rattle.ipfix_model.specs.Elements.{destination_ipv6_address}
use Rattle.ipfix_model.specs.Templates.{v4_fields, v6_fields}
use Rattle.ipfix_model.specs.Values.{are_values_of}
use Rattle.record_ledger.proofs.Unique.{record_same}
use Rattle.ipfix_reader.specs.FlowFields.{FlowFields, flow_fields, AreOfFlow, IsFlowWith, fields_in}
use Rattle.record_ledger.specs.RecordWith.{record_where}
use Rattle.ipfix_reader.specs.FlowWith.{flow_with}
use Rattle.ipfix_reader.specs.Flows.{flow}

pub same_flow_fields : (one other : FlowRecord) → flow_fields one ≡ flow_fields other → one ≡ other
same_flow_fields one other is =
    record_same one other (same_part_fields one.part other.part (ap (λ (f : FlowFields). f.part) is))
    (ap (λ (f : FlowFields). f.reason) is)

pub flow_fields_fit : (flow : FlowRecord) → AreOfFlow (flow_fields flow)
flow_fields_fit flow = let part = part_fields_fit flow.part in
    record { key = part.0; counts = part.1; reason = flow.sized }

answer-is : (fields : FlowFields) (part : Option Fragment) (decided : Dec (fields.reason < 2 ^ 8))
    → IsPartOf fields.part part
    → IsFlowWith fields (option_and_then (record_where fields.reason decided) part)
unfolding record_where
answer-is fields None decided is = λ fit. is (fit.key, fit.counts)
answer-is fields (Some part) (yes fits) is = λ i. record { part = is i; reason = fields.reason }
answer-is fields (Some part) (no wide) is = λ fit. wide fit.reason

-- the function gives an answer that is one
pub flow_with-is : (fields : FlowFields) → IsFlowWith fields (flow_with fields)
unfolding flow_with
flow_with-is fields = answer-is fields (part_with fields.part) (dec_lt fields.reason (2 ^ 8)) (part_with-is fields.part)

subst_fit : (flow : FlowRecord) (fields : FlowFields) → flow_fields flow ≡ fields → AreOfFlow fields
subst_fit flow fields is = subst AreOfFlow is (flow_fields_fit flow)

-- and there is one alone
pub one_flow : (fields : FlowFields) (one other : Option FlowRecord) → IsFlowWith fields one → IsFlowWith fields other
    → one ≡ other
one_flow fields None None none other = refl
one_flow fields None (Some flow) none is = absurd (none (subst_fit flow fields is))
one_flow fields (Some flow) None is none = absurd (none (subst_fit flow fields is))
one_flow fields (Some one) (Some other) is is' = ap Some (same_flow_fields one other (is ∙ sym is'))

pub flow_with-flow : (flow : FlowRecord) → flow_with (flow_fields flow) ≡ Some flow
flow_with-flow flow = one_flow (flow_fields flow) (flow_with (flow_fields flow)) (Some flow)
    (flow_with-is (flow_fields flow)) refl

pub answer-same : (fields : FlowFields) (answer : Option FlowRecord) → IsFlowWith fields answer
    → answer ≡ flow_with fields
answer-same fields answer is = one_flow fields answer (flow_with fields) is (flow_with-is fields)

-- the flow record of a data record, where its values are those of a template
pub flow-v4 : (data_record : DataRecord) (values : List FieldValue) (shown : FlowFields) (answer : Option FlowRecord)
    → values ≡ data_record.fields
    → are_values_of v4_fields values ≡ true → shown ≡ fields_in 4 source_ipv4_address destination_ipv4_address values
    → IsFlowWith shown answer → answer ≡ flow data_record
unfolding flow
flow-v4 data_record values shown answer values_are are shown_is is =
    let test : are_values_of v4_fields data_record.fields ≡ true =
    ap (are_values_of v4_fields) (sym values_are) ∙ are in
    rw test
    (answer-same shown answer is ∙ ap flow_with
    (shown_is ∙ ap (fields_in 4 source_ipv4_address destination_ipv4_address) values_are))

pub flow-v6 : (data_record : DataRecord) (values : List FieldValue) (shown : FlowFields) (answer : Option FlowRecord)
    → values ≡ data_record.fields
    → are_values_of v4_fields values ≡ false → are_values_of v6_fields values ≡ true
    → shown ≡ fields_in 6 source_ipv6_address destination_ipv6_address values → IsFlowWith shown answer
    → answer ≡ flow data_record
unfolding flow
flow-v6 data_record values shown answer values_are other are shown_is is =
    let test : are_values_of v4_fields data_record.fields ≡ false =
    ap (are_values_of v4_fields) (sym values_are) ∙ other in
    let test' : are_values_of v6_fields data_record.fields ≡ true =
    ap (are_values_of v6_fields) (sym values_are) ∙ are in
    rw (test, test')
    (answer-same shown answer is ∙ ap flow_with
    (shown_is ∙ ap (fields_in 6 source_ipv6_address destination_ipv6_address) values_are))
