-- The templates of flows, known by their fields.
use Rattle.std.specs.Prelude.{◌≡◌, ◌≢◌, ℕ, List, Option, Some, None}
use Rattle.ipfix_model.specs.declared.fields.FieldSpec.{FieldSpec}
use Rattle.ipfix_model.specs.Templates.{v4_fields, v6_fields}
use Rattle.ipfix_model.specs.Sizes.{v4_record_length, v6_record_length}
use Rattle.ipfix_reader.specs.declared.flow_template.FlowTemplate.{FlowTemplate}
use Rattle.ipfix_reader.specs.declared.flow_template.FlowTemplate.TheVariants.{V4, V6}

-- The fields of a template of flows.
abbrev pub flow_template_fields : FlowTemplate → List FieldSpec
flow_template_fields V4 = v4_fields
flow_template_fields V6 = v6_fields

-- The length of a data record of it.
abbrev pub flow_record_length : FlowTemplate → ℕ
flow_record_length V4 = v4_record_length
flow_record_length V6 = v6_record_length

-- The template of flows that has these fields, and none exactly where none has.
abbrev pub IsFlowTemplate : Option FlowTemplate → List FieldSpec → Type 0
IsFlowTemplate None fields = (fields ≢ v4_fields) × (fields ≢ v6_fields)
IsFlowTemplate (Some flow) fields = fields ≡ flow_template_fields flow
