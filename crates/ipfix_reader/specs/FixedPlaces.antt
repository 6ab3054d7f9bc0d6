-- Data records whose values stand at fixed places.
use Rattle.std.specs.Prelude.{ℕ, ◌+◌, List, [], ◌∷◌, take, drop}
use Rattle.ipfix_model.specs.declared.fields.FieldSpec.{FieldSpec}
use Rattle.ipfix_model.specs.declared.values.FieldValue.{FieldValue}
use Rattle.ipfix_model.specs.declared.values.DataRecord.{DataRecord}
use Rattle.ipfix_reader.specs.declared.flow_octets.FlowOctets.{FlowOctets}
use Rattle.ipfix_reader.specs.FlowTemplates.{flow_template_fields}

-- The values of fields of fixed length, one behind the other from a place on.
abbrev pub values_at : ℕ → List FieldSpec → List ℕ → List FieldValue
values_at place [] octets = []
values_at place (field ∷ fields) octets =
    record { element = field.element; enterprise = field.enterprise; value = take field.length (drop place octets) }
    ∷ values_at (place + field.length) fields octets

-- The data record that has these octets.
unfoldable pub record_of : FlowOctets → DataRecord
record_of rec = record {
  domain = rec.domain;
  template = rec.template;
  fields = values_at 0 (flow_template_fields rec.flow) rec.octets.now;
}
