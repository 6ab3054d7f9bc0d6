-- The biflows of a stream (RFC 5103).
use Rattle.std.specs.Prelude.{ℕ, List, [], ◌∷◌, Option, Some, None, option_map, option_and_then, if◌then◌else◌}
use Rattle.std.specs.Result.{result_ok}
use Rattle.flow_key.specs.Fields.{KeyFields}
use Rattle.record_ledger.specs.declared.record.FlowRecord.{FlowRecord}
use Rattle.ipfix_model.specs.declared.values.FieldValue.{FieldValue}
use Rattle.ipfix_model.specs.declared.values.DataRecord.{DataRecord}
use Rattle.ipfix_model.specs.Elements.{octet_delta_count, packet_delta_count, tcp_control_bits, source_ipv4_address}
use Rattle.ipfix_model.specs.Elements.{destination_ipv4_address, source_ipv6_address, destination_ipv6_address}
use Rattle.ipfix_model.specs.Elements.{flow_end_reason, flow_start_milliseconds, flow_end_milliseconds}
use Rattle.ipfix_model.specs.Elements.{reverse_enterprise}
use Rattle.ipfix_model.specs.Templates.{v4_bi_fields, v6_bi_fields}
use Rattle.ipfix_model.specs.Values.{are_values_of, number_of}
use Rattle.ipfix_reader.specs.FlowFields.{FlowFields, fields_in}
use Rattle.ipfix_reader.specs.FlowWith.{flow_with}
use Rattle.ipfix_reader.specs.Flows.{flow}
use Rattle.ipfix_reader.specs.Messages.{decode}
use Rattle.pair_program.specs.declared.biflow.Biflow.{Biflow}

-- The reverse of a key has both addresses and both ports exchanged.
abbrev pub reverse_of : KeyFields → KeyFields
reverse_of key = record {
  version = key.version;
  source = key.destination;
  destination = key.source;
  protocol = key.protocol;
  source_port = key.destination_port;
  destination_port = key.source_port;
}

-- The number in the first value of the reverse of an element.
abbrev pub reverse_number : ℕ → List FieldValue → ℕ
reverse_number element values = number_of (Some reverse_enterprise) element values

-- The numbers of the reverse flow: its key is the reverse of the forward flow's, and its other numbers are the values
-- of the reverse elements (RFC 5103, section 6.1).
abbrev pub reverse_fields_in : KeyFields → List FieldValue → FlowFields
reverse_fields_in key values = record {
  part = record {
    key = reverse_of key;
    packets = reverse_number packet_delta_count values;
    octets = reverse_number octet_delta_count values;
    first = reverse_number flow_start_milliseconds values;
    last = reverse_number flow_end_milliseconds values;
    flags = reverse_number tcp_control_bits values;
  };
  reason = reverse_number flow_end_reason values;
}

-- The biflow of a forward flow with these fields and a reverse flow with the fields that stand beside them, where both
-- are flow records.
abbrev pub biflow_with : FlowFields → List FieldValue → Option Biflow
biflow_with forward values =
    option_and_then (λ (f : FlowRecord). option_map (λ (r : FlowRecord). record { forward = f; reverse = Some r })
    (flow_with (reverse_fields_in forward.part.key values))) (flow_with forward)

-- The biflow that a data record is: one with the fields of the template for biflows over IPv4 or over IPv6, or a flow
-- record, which is a biflow without a reverse flow. None for any other record.
unfoldable pub biflow : DataRecord → Option Biflow
biflow data_record =
    if are_values_of v4_bi_fields data_record.fields
    then biflow_with (fields_in 4 source_ipv4_address destination_ipv4_address data_record.fields) data_record.fields
    else if are_values_of v6_bi_fields data_record.fields
    then biflow_with (fields_in 6 source_ipv6_address destination_ipv6_address data_record.fields) data_record.fields
    else option_map (λ (f : FlowRecord). record { forward = f; reverse = None }) (flow data_record)

-- The biflows that data records are, where each is a biflow; none otherwise.
abbrev pub biflows_in : List DataRecord → Option (List Biflow)
biflows_in [] = Some []
biflows_in (data_record ∷ data_records) =
    option_and_then (λ (first : Biflow). option_map (λ (pairs : List Biflow). first ∷ pairs) (biflows_in data_records))
    (biflow data_record)

-- The biflows of a stream: those that its data records are, where the stream has no fault and each record is a biflow.
unfoldable pub biflows_of : List ℕ → Option (List Biflow)
biflows_of bytes = option_and_then biflows_in (result_ok (decode bytes))
