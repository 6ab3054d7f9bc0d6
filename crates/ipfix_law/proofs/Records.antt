-- A flow record written as a data record is read as that flow record.
use Rattle.std.proofs.Common.{◌≡◌, ◌==◌, ◌<◌, ◌^◌, ℕ, Bool, true, false, List, [], ◌∷◌, ◌++◌, Some, if◌then◌else◌, refl}
use Rattle.std.proofs.Common.{sym, ap, ◌∙◌, arith, map, option_map, eqb-true}
use Rattle.std.proofs.lemmas.Bool.{eqb-false}
use Rattle.std.specs.Option.{option_and_then}
use Rattle.flow_key.specs.Fields.{KeyFields, fields_of as key_fields}
use Rattle.record_ledger.specs.declared.record.FlowRecord.{FlowRecord}
use Rattle.ipfix_model.specs.declared.fields.FieldSpec.{FieldSpec}
use Rattle.ipfix_model.specs.declared.values.DataRecord.{DataRecord}
use Rattle.ipfix_model.specs.Elements.{octet_delta_count, packet_delta_count, protocol_identifier, tcp_control_bits}
use Rattle.ipfix_model.specs.Elements.{source_transport_port, source_ipv4_address, destination_transport_port}
use Rattle.ipfix_model.specs.Elements.{destination_ipv4_address, source_ipv6_address, destination_ipv6_address}
use Rattle.ipfix_model.specs.Elements.{flow_end_reason, flow_start_milliseconds, flow_end_milliseconds}
use Rattle.ipfix_model.specs.Templates.{iana_field, v4_fields, v6_fields, template_of, fields_of}
use Rattle.ipfix_model.specs.Values.{flow_value, field_value, number_in}
use Rattle.ipfix_reader.specs.FlowFields.{FlowFields, flow_fields, fields_in}
use Rattle.ipfix_reader.specs.FlowWith.{flow_with}
use Rattle.ipfix_reader.specs.Flows.{flow, flows_in}
use Rattle.ipfix_reader.proofs.FlowFields.{flow_with-flow}
use Rattle.ipfix_law.proofs.Values.{value_with, values_with, number_in-with}

-- whether it is of version 4
abbrev pub is_v4 : FlowRecord → Bool
is_v4 f = f.part.key.version == 4

-- the numbers of a flow record are read back out of values of such fields
abbrev pub IsReadBack : (FieldSpec → ℕ) → (ℕ → ℕ → FieldSpec) → FlowRecord → Type 0
IsReadBack value field f =
    (element long : ℕ) → flow_value f element < 256 ^ long
    → number_in (value_with value (field element long)) ≡ flow_value f element

-- the fields of a flow record with this key, whose other numbers are read out of such values
abbrev pub read_behind : (FieldSpec → ℕ) → (ℕ → ℕ → FieldSpec) → KeyFields → FlowFields
read_behind value field key = record {
  part = record {
    key = key;
    packets = number_in (value_with value (field packet_delta_count 8));
    octets = number_in (value_with value (field octet_delta_count 8));
    first = number_in (value_with value (field flow_start_milliseconds 8));
    last = number_in (value_with value (field flow_end_milliseconds 8));
    flags = number_in (value_with value (field tcp_control_bits 2));
  };
  reason = number_in (value_with value (field flow_end_reason 1));
}

pub read_behind-flow : (value : FieldSpec → ℕ) (field : ℕ → ℕ → FieldSpec) (f : FlowRecord) (key : KeyFields)
    → IsReadBack value field f → key ≡ key_fields f.part.key → read_behind value field key ≡ flow_fields f
read_behind-flow value field f key back key_is =
    let part = f.part.sized in
    let flags = back tcp_control_bits 2 part.3 in
    let packets = back packet_delta_count 8 part.0 in
    let octets = back octet_delta_count 8 part.1 in
    let first = back flow_start_milliseconds 8 (omega (arith, f.part.spanned, part.2)) in
    let last = back flow_end_milliseconds 8 part.2 in
    let reason = back flow_end_reason 1 f.sized in
    λ i. record {
      part = record {
        key = key_is i;
        packets = packets i;
        octets = octets i;
        first = first i;
        last = last i;
        flags =
            flags i;
      };
      reason = reason i;
    }

-- the key whose addresses are these fields, and whose ports and protocol are read out of such values
abbrev read_key : (FieldSpec → ℕ) → ℕ → FieldSpec → FieldSpec → KeyFields
read_key value version source destination = record {
  version = version;
  source = number_in (value_with value source);
  destination = number_in (value_with value destination);
  protocol = number_in (value_with value (iana_field protocol_identifier 1));
  source_port = number_in (value_with value (iana_field source_transport_port 2));
  destination_port = number_in (value_with value (iana_field destination_transport_port 2));
}

read_key-flow : (value : FieldSpec → ℕ) (f : FlowRecord) (version : ℕ) (source destination : FieldSpec)
    → IsReadBack value iana_field f
    → version ≡ f.part.key.version
    → number_in (value_with value source) ≡ f.part.key.source
    → number_in (value_with value destination) ≡ f.part.key.destination
    → read_key value version source destination ≡ key_fields f.part.key
read_key-flow value f version source destination back version_is source_is destination_is =
    let key = f.part.key.sized in
    let source_port = back source_transport_port 2 key.3 in
    let destination_port = back destination_transport_port 2 key.4 in
    let protocol = back protocol_identifier 1 key.2 in
    λ i. record {
      version = version_is i;
      source = source_is i;
      destination = destination_is i;
      protocol = protocol i;
      source_port = source_port i;
      destination_port = destination_port i;
    }

-- so the values of these fields, in front of others, are the flow record's
pub fields_in-v4 : (value : FieldSpec → ℕ) (f : FlowRecord) (more : List FieldSpec) → IsReadBack value iana_field f
    → f.part.key.version ≡ 4
    → fields_in 4 source_ipv4_address destination_ipv4_address (values_with value (v4_fields ++ more)) ≡ flow_fields f
fields_in-v4 value f more back v4 =
    let narrow = f.part.key.narrow v4 in
    let source = iana_field source_ipv4_address 4 in
    let destination = iana_field destination_ipv4_address 4 in
    read_behind-flow value iana_field f (read_key value 4 source destination) back
    (read_key-flow value f 4 source destination back (sym v4) (back source_ipv4_address 4 narrow.0)
    (back destination_ipv4_address 4 narrow.1))

pub fields_in-v6 : (value : FieldSpec → ℕ) (f : FlowRecord) (more : List FieldSpec) → IsReadBack value iana_field f
    → f.part.key.version ≡ 6
    → fields_in 6 source_ipv6_address destination_ipv6_address (values_with value (v6_fields ++ more)) ≡ flow_fields f
fields_in-v6 value f more back v6 =
    let key = f.part.key.sized in
    let source = iana_field source_ipv6_address 16 in
    let destination = iana_field destination_ipv6_address 16 in
    read_behind-flow value iana_field f (read_key value 6 source destination) back
    (read_key-flow value f 6 source destination back (sym v6) (back source_ipv6_address 16 key.0)
    (back destination_ipv6_address 16 key.1))

-- the values of a flow record are read back
back-flow : (f : FlowRecord) → IsReadBack (field_value f) iana_field f
back-flow f element long = number_in-with (field_value f) (iana_field element long)

-- a data record with these values is the flow record
flow-v4 : (f : FlowRecord) (domain template : ℕ) → f.part.key.version ≡ 4
    → flow (record { domain = domain; template = template; fields = values_with (field_value f) v4_fields }) ≡ Some f
unfolding flow
flow-v4 f domain template v4 = ap flow_with (fields_in-v4 (field_value f) f [] (back-flow f) v4) ∙ flow_with-flow f

flow-v6 : (f : FlowRecord) (domain template : ℕ) → f.part.key.version ≡ 6
    → flow (record { domain = domain; template = template; fields = values_with (field_value f) v6_fields }) ≡ Some f
unfolding flow
flow-v6 f domain template v6 = ap flow_with (fields_in-v6 (field_value f) f [] (back-flow f) v6) ∙ flow_with-flow f

-- the data record that a flow record is written as
abbrev pub data_of : FlowRecord → DataRecord
data_of f = record { domain = 1; template = template_of f; fields = values_with (field_value f) (fields_of f) }

flow-by : (f : FlowRecord) (v4 : Bool) → is_v4 f ≡ v4
    → flow (record {
      domain = 1;
      template = template_of f;
      fields =
          values_with (field_value f) (if v4 then v4_fields else v6_fields);
    }) ≡ Some f
flow-by f true is = flow-v4 f 1 (template_of f) (eqb-true f.part.key.version 4 is)
flow-by f false is = flow-v6 f 1 (template_of f) (f.part.key.known (eqb-false f.part.key.version 4 is))

-- and it is read as that flow record
pub flow-data_of : (f : FlowRecord) → flow (data_of f) ≡ Some f
flow-data_of f = flow-by f (is_v4 f) refl

pub flows_in-data_of : (flows : List FlowRecord) → flows_in (map data_of flows) ≡ Some flows
flows_in-data_of [] = refl
flows_in-data_of (f ∷ flows) =
    ap (option_and_then (λ first. option_map (λ more. first ∷ more) (flows_in (map data_of flows)))) (flow-data_of f)
    ∙ ap (option_map (λ more. f ∷ more)) (flows_in-data_of flows)
