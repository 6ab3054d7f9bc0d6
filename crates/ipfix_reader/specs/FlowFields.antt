-- The fields of a flow record as plain numbers, and the flow record that has them.
use Rattle.std.specs.Prelude.{◌≡◌, ℕ, ◌<◌, ◌^◌, Option, None, List, MatchOption}
use Rattle.flow_key.specs.Fields.{AreFit}
use Rattle.flow_parts.specs.Fields.{PartFields, part_fields, AreCounts}
use Rattle.record_ledger.specs.declared.record.FlowRecord.{FlowRecord}
use Rattle.ipfix_model.specs.declared.values.FieldValue.{FieldValue}
use Rattle.ipfix_model.specs.Elements.{octet_delta_count, packet_delta_count, protocol_identifier, tcp_control_bits}
use Rattle.ipfix_model.specs.Elements.{source_transport_port, destination_transport_port, flow_end_reason}
use Rattle.ipfix_model.specs.Elements.{flow_start_milliseconds, flow_end_milliseconds}
use Rattle.ipfix_model.specs.Values.{number_of}

-- Numbers in the places of a flow record's fields.
pub record FlowFields : Type 0 where
  pub part : PartFields
  pub reason : ℕ

-- The fields that a flow record has.
abbrev pub flow_fields : FlowRecord → FlowFields
flow_fields flow = record { part = part_fields flow.part; reason = flow.reason }

-- The numbers fit a flow record: those of its key and of its counts fit, and its end reason has 8 bits.
pub record AreOfFlow (fields : FlowFields) : Type 0 where
  pub key : AreFit fields.part.key
  pub counts : AreCounts fields.part
  pub reason : fields.reason < 2 ^ 8

-- The answer to such numbers: the flow record that has them as its fields, and none where they don't fit.
abbrev pub IsFlowWith : FlowFields → Option FlowRecord → Type 0
IsFlowWith fields answer = MatchOption answer (¬ AreOfFlow fields) (λ flow. flow_fields flow ≡ fields)

-- The numbers in the values of a record in the places of a flow record's fields, each found by its element. The IP
-- version, and the elements of the source and the destination address, are given.
abbrev pub fields_in : ℕ → ℕ → ℕ → List FieldValue → FlowFields
fields_in version source destination values = record {
  part = record {
    key = record {
      version = version;
      source = number_of None source values;
      destination = number_of None destination values;
      protocol = number_of None protocol_identifier values;
      source_port = number_of None source_transport_port values;
      destination_port = number_of None destination_transport_port values;
    };
    packets = number_of None packet_delta_count values;
    octets = number_of None octet_delta_count values;
    first = number_of None flow_start_milliseconds values;
    last = number_of None flow_end_milliseconds values;
    flags = number_of None tcp_control_bits values;
  };
  reason = number_of None flow_end_reason values;
}
