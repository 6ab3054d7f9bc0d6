-- The values of the fields of a record.
use Rattle.std.specs.Prelude.{ℕ, ◌≤◌, ◌==◌, All, List, [], ◌∷◌, length, Option, Some, None, is_none, unwrap_or}
use Rattle.std.specs.Prelude.{flat_map, ◌&&◌, Bool, true, false, if◌then◌else◌}
use Rattle.std.specs.Map.{lookup}
use Rattle.octets.specs.Numbers.{octets_of, number_at}
use Rattle.record_ledger.specs.declared.record.FlowRecord.{FlowRecord}
use Rattle.ipfix_model.specs.declared.fields.FieldSpec.{FieldSpec}
use Rattle.ipfix_model.specs.declared.values.FieldValue.{FieldValue}
use Rattle.ipfix_model.specs.Elements.{octet_delta_count, packet_delta_count, protocol_identifier, tcp_control_bits}
use Rattle.ipfix_model.specs.Elements.{source_transport_port, source_ipv4_address, destination_transport_port}
use Rattle.ipfix_model.specs.Elements.{destination_ipv4_address, source_ipv6_address, destination_ipv6_address}
use Rattle.ipfix_model.specs.Elements.{flow_end_reason, flow_start_milliseconds, flow_end_milliseconds}

-- The values of a flow record, each with its element. Octets are those of the IP headers and the IP payload.
abbrev pub flow_values : FlowRecord → List (ℕ × ℕ)
flow_values flow =
    (octet_delta_count, flow.part.octets)
    ∷ (packet_delta_count, flow.part.packets)
    ∷ (protocol_identifier, flow.part.key.protocol)
    ∷ (tcp_control_bits, flow.part.flags)
    ∷ (source_transport_port, flow.part.key.source_port)
    ∷ (source_ipv4_address, flow.part.key.source)
    ∷ (destination_transport_port, flow.part.key.destination_port)
    ∷ (destination_ipv4_address, flow.part.key.destination)
    ∷ (source_ipv6_address, flow.part.key.source)
    ∷ (destination_ipv6_address, flow.part.key.destination)
    ∷ (flow_end_reason, flow.reason)
    ∷ (flow_start_milliseconds, flow.part.first)
    ∷ (flow_end_milliseconds, flow.part.last)
    ∷ []

-- The value of an element in a flow record; 0 where the element is none of these.
abbrev pub flow_value : FlowRecord → ℕ → ℕ
flow_value flow element = unwrap_or (lookup (λ other. element == other) (flow_values flow)) 0

-- The value of a field in a flow record.
abbrev pub field_value : FlowRecord → FieldSpec → ℕ
field_value flow field = flow_value flow field.element

-- The value of a field in a biflow, which is a forward and a reverse flow record: a field of one of IANA's elements
-- takes it from the forward record, and a field of a reverse element from the reverse record.
abbrev pub bi_field_value : FlowRecord → FlowRecord → FieldSpec → ℕ
bi_field_value forward reverse field = flow_value (if is_none field.enterprise then forward else reverse) field.element

-- The bytes of a data record: field by field, the value of the field in as many octets as the field is long, in network
-- order (RFC 7011, sections 3.4.3 and 6.1).
abbrev pub record_bytes : (FieldSpec → ℕ) → List FieldSpec → List ℕ
record_bytes value fields = flat_map (λ field. octets_of field.length (value field)) fields

-- Both are the same enterprise, or both are IANA.
abbrev pub is_same_enterprise : Option ℕ → Option ℕ → Bool
is_same_enterprise None None = true
is_same_enterprise None (Some other) = false
is_same_enterprise (Some enterprise) None = false
is_same_enterprise (Some enterprise) (Some other) = enterprise == other

-- The value is of this element of this enterprise, or of IANA where none is given.
abbrev pub is_of_element : Option ℕ → ℕ → FieldValue → Bool
is_of_element enterprise element value = (element == value.element) && is_same_enterprise enterprise value.enterprise

-- The value is one of this field: of its element, and as long as the field says.
abbrev pub is_value_of : FieldSpec → FieldValue → Bool
is_value_of field value = is_of_element field.enterprise field.element value && (length value.value == field.length)

-- The values are those of these fields, in order.
abbrev pub are_values_of : List FieldSpec → List FieldValue → Bool
are_values_of [] [] = true
are_values_of [] (value ∷ values) = false
are_values_of (field ∷ fields) [] = false
are_values_of (field ∷ fields) (value ∷ values) = is_value_of field value && are_values_of fields values

-- The number that a value is, in network order.
abbrev pub number_in : FieldValue → ℕ
number_in value = number_at 0 (length value.value) value.value

-- The values have one to sixteen octets each, so that each is a number of at most 128 bits.
abbrev pub AreNumbers : List FieldValue → Type 0
AreNumbers values = All (λ (value : FieldValue). (1 ≤ length value.value) × (length value.value ≤ 16)) values

-- The number in the first value of an element; 0 where there is none.
abbrev pub number_of : Option ℕ → ℕ → List FieldValue → ℕ
number_of enterprise element [] = 0
number_of enterprise element (value ∷ values) =
    if is_of_element enterprise element value then number_in value else number_of enterprise element values
