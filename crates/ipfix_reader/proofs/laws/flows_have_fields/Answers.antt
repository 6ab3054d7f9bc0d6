-- The laws, as they are proved of the definitions.
use Rattle.ipfix_reader.proofs.FlowFields.{same_flow_fields, flow_fields_fit, flow_with-is, flow_with-flow}
use Rattle.ipfix_reader.proofs.laws.flows_have_fields.Goals as goal

pub returns : goal.returns
returns c = record {
  tell = same_flow_fields;
  fit = flow_fields_fit;
  answers = flow_with-is;
  flow = flow_with-flow;
}
