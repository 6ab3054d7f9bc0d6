-- The layout of flow records decodes to them.
use Rattle.std.proofs.Common.{◌≡◌, ◌<◌, ◌≤◌, ◌^◌, ℕ, Bool, true, false, List, [], ◌∷◌, ◌++◌, map, if◌then◌else◌, Some}
use Rattle.std.proofs.Common.{Ok, refl, ap, ◌∙◌, arith, lit<}
use Rattle.std.specs.Option.{option_and_then}
use Rattle.std.specs.Result.{result_ok}
use Rattle.record_ledger.specs.declared.record.FlowRecord.{FlowRecord}
use Rattle.ipfix_model.specs.declared.fields.FieldSpec.{FieldSpec}
use Rattle.ipfix_model.specs.Fields.{least_length}
use Rattle.ipfix_model.specs.Templates.{v4_fields, v6_fields, v4_template, v6_template, template_of, fields_of}
use Rattle.ipfix_model.specs.Values.{field_value}
use Rattle.ipfix_model.specs.Sizes.{template_message_length}
use Rattle.octets.specs.Numbers.{number_at}
use Rattle.ipfix_writer.specs.Encoding.{template_record, field_specifier, template_message, data_record}
use Rattle.ipfix_writer.specs.Layout.{encode_flow, IsLayout}
use Rattle.ipfix_writer.proofs.Templates.{length-template_records}
use Rattle.ipfix_reader.specs.Part.{Part}
use Rattle.ipfix_reader.specs.Known.{Templates, fields_in, with_template}
use Rattle.ipfix_reader.specs.Specifiers.{template_fields}
use Rattle.ipfix_reader.specs.Records.{template_records}
use Rattle.ipfix_reader.specs.Messages.{decode}
use Rattle.ipfix_reader.specs.Flows.{flows_in, flows_of}
use Rattle.ipfix_reader.proofs.RecordSteps.{template_records-next, template_records-end}
use Rattle.ipfix_law.proofs.Values.{AreFixed}
use Rattle.ipfix_law.proofs.DataSets.{IsReadAs}
use Rattle.ipfix_law.proofs.Records.{is_v4, data_of, flows_in-data_of}
use Rattle.ipfix_law.proofs.Streams.{stream-decoded}

-- the templates that the first message makes known
abbrev known : Templates
known = ((1, v4_template), v4_fields) ∷ ((1, v6_template), v6_fields) ∷ []

-- both template records
abbrev both : List ℕ
both = template_record v4_template v4_fields ++ template_record v6_template v6_fields

templates-read : template_records false 1 [] (record { at = 20; bytes = both }) ≡ Ok known
unfolding template_record field_specifier template_fields number_at with_template
templates-read =
    let second : Part = record { at = 68; bytes = template_record v6_template v6_fields } in
    template_records-next false 1 [] (record { at = 20; bytes = both }) (record { fields = v4_fields; rest = second })
    (omega arith) refl
    ∙ template_records-next false 1 (((1, v4_template), v4_fields) ∷ []) second
    (record { fields = v6_fields; rest = record { at = template_message_length; bytes = [] } }) (omega arith) refl
    ∙ template_records-end false 1 known (record { at = template_message_length; bytes = [] }) (omega arith)

-- the facts on both templates
abbrev template_for : Bool → ℕ
template_for v4 = if v4 then v4_template else v6_template

abbrev fields_for : Bool → List FieldSpec
fields_for v4 = if v4 then v4_fields else v6_fields

known-fields : (v4 : Bool) → fields_in known 1 (template_for v4) ≡ Some (fields_for v4)
unfolding fields_in
known-fields true = refl
known-fields false = refl

template-high : (v4 : Bool) → 256 ≤ template_for v4
template-high true = omega arith
template-high false = omega arith

template-low : (v4 : Bool) → template_for v4 < 2 ^ 16
template-low true = omega arith
template-low false = omega arith

least-some : (v4 : Bool) → 0 < least_length (fields_for v4)
least-some true = lit< tt
least-some false = lit< tt

fields-fixed : (v4 : Bool) → AreFixed (fields_for v4)
fields-fixed true = (refl, (refl, (refl, (refl, (refl, (refl, (refl, (refl, (refl, (refl, (refl, tt)))))))))))
fields-fixed false = (refl, (refl, (refl, (refl, (refl, (refl, (refl, (refl, (refl, (refl, (refl, tt)))))))))))

-- a flow record is read as its data record
flow-read_as : (flow : FlowRecord) → IsReadAs known (encode_flow flow) (data_of flow)
unfolding template_of data_record
flow-read_as flow =
    let v4 = is_v4 flow in
    record {
      fields = fields_of flow;
      value = field_value flow;
      known = known-fields v4;
      high = template-high v4;
      low = template-low v4;
      some = least-some v4;
      fixed = fields-fixed v4;
      bytes = refl;
      gives = refl;
    }

layout-decoded : (flows : List FlowRecord) (bytes : List ℕ) (size time : ℕ) → size ≤ 65535
    → IsLayout size time flows bytes → decode bytes ≡ Ok (map data_of flows)
unfolding template_message
layout-decoded flows bytes size time small layout =
    stream-decoded known encode_flow data_of both flows bytes size time flow-read_as
    (omega (arith, length-template_records)) templates-read small layout

pub layout-flows : (flows : List FlowRecord) (bytes : List ℕ) (size time : ℕ) → size ≤ 65535
    → IsLayout size time flows bytes → flows_of bytes ≡ Some flows
unfolding flows_of
layout-flows flows bytes size time small layout =
    ap (λ read. option_and_then flows_in (result_ok read)) (layout-decoded flows bytes size time small layout)
    ∙ flows_in-data_of flows
