-- Laws on the fields of flow records.
use Rattle.std.specs.Prelude.{◌≡◌, Some}
use Rattle.record_ledger.specs.declared.record.FlowRecord.{FlowRecord}
use Rattle.ipfix_reader.specs.FlowFields.{FlowFields, flow_fields, AreOfFlow, IsFlowWith}
use Rattle.ipfix_reader.specs.FlowWith.{flow_with}

-- Two flow records with the same fields are one.
abbrev pub FieldsTell : Type 0
FieldsTell = (one other : FlowRecord) → flow_fields one ≡ flow_fields other → one ≡ other

-- The fields of a flow record fit.
abbrev pub FlowsFit : Type 0
FlowsFit = (flow : FlowRecord) → AreOfFlow (flow_fields flow)

-- The function gives the one answer: a flow record with these fields, and none exactly where they don't fit.
abbrev pub AnswersAsDefined : Type 0
AnswersAsDefined = (fields : FlowFields) → IsFlowWith fields (flow_with fields)

-- The flow record with the fields of a flow record is that one.
abbrev pub FlowOfItsFields : Type 0
FlowOfItsFields = (flow : FlowRecord) → flow_with (flow_fields flow) ≡ Some flow
