-- Flow records among data records.
use Rattle.std.specs.Prelude.{ℕ, List, [], ◌∷◌, Option, Some, None, option_map, option_and_then, if◌then◌else◌}
use Rattle.std.specs.Result.{result_ok}
use Rattle.record_ledger.specs.declared.record.FlowRecord.{FlowRecord}
use Rattle.ipfix_model.specs.declared.values.FieldValue.{FieldValue}
use Rattle.ipfix_model.specs.declared.values.DataRecord.{DataRecord}
use Rattle.ipfix_model.specs.Elements.{source_ipv4_address, destination_ipv4_address, source_ipv6_address}
use Rattle.ipfix_model.specs.Elements.{destination_ipv6_address}
use Rattle.ipfix_model.specs.Templates.{v4_fields, v6_fields}
use Rattle.ipfix_model.specs.Values.{are_values_of}
use Rattle.ipfix_reader.specs.FlowFields.{fields_in}
use Rattle.ipfix_reader.specs.FlowWith.{flow_with}
use Rattle.ipfix_reader.specs.Messages.{decode}

-- The flow record in the values of a template's fields, over IPv4 and over IPv6.
abbrev pub v4_flow : List FieldValue → Option FlowRecord
v4_flow values = flow_with (fields_in 4 source_ipv4_address destination_ipv4_address values)

abbrev pub v6_flow : List FieldValue → Option FlowRecord
v6_flow values = flow_with (fields_in 6 source_ipv6_address destination_ipv6_address values)

-- The flow record that a data record is: its values are those of the fields of the template for version 4 or for
-- version 6, in order, and the numbers in them are those of a flow record. Else none.
unfoldable pub flow : DataRecord → Option FlowRecord
flow data_record =
    if are_values_of v4_fields data_record.fields then v4_flow data_record.fields
    else if are_values_of v6_fields data_record.fields then v6_flow data_record.fields
    else None

-- The flow records that data records are, where each is one.
abbrev pub flows_in : List DataRecord → Option (List FlowRecord)
flows_in [] = Some []
flows_in (data_record ∷ data_records) =
    option_and_then (λ first. option_map (λ flows. first ∷ flows) (flows_in data_records)) (flow data_record)

-- The flow records of a stream: those that its data records are, where it has no fault and each is one.
unfoldable pub flows_of : List ℕ → Option (List FlowRecord)
flows_of bytes = option_and_then flows_in (result_ok (decode bytes))
