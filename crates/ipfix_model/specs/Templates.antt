-- The four templates that are written (RFC 7011, section 3.4.1), those of flows and those of biflows (RFC 5103): the
-- number of each, and its fields in order, each an element with the length of its values in octets.
use Rattle.std.specs.Prelude.{ℕ, ◌==◌, List, [], ◌∷◌, ◌++◌, Some, None, if◌then◌else◌}
use Rattle.record_ledger.specs.declared.record.FlowRecord.{FlowRecord}
use Rattle.ipfix_model.specs.declared.fields.FieldSpec.{FieldSpec}
use Rattle.ipfix_model.specs.Elements.{octet_delta_count, packet_delta_count, protocol_identifier, tcp_control_bits}
use Rattle.ipfix_model.specs.Elements.{source_transport_port, source_ipv4_address, destination_transport_port}
use Rattle.ipfix_model.specs.Elements.{destination_ipv4_address, source_ipv6_address, destination_ipv6_address}
use Rattle.ipfix_model.specs.Elements.{flow_end_reason, flow_start_milliseconds, flow_end_milliseconds}
use Rattle.ipfix_model.specs.Elements.{reverse_enterprise}

-- A field for one of IANA's elements.
abbrev pub iana_field : ℕ → ℕ → FieldSpec
iana_field element length = record { element = element; length = length; enterprise = None }

-- What the templates of both IP versions have behind the two addresses.
abbrev pub fields_behind_addresses : List FieldSpec
fields_behind_addresses =
    iana_field source_transport_port 2
    ∷ iana_field destination_transport_port 2
    ∷ iana_field protocol_identifier 1
    ∷ iana_field tcp_control_bits 2
    ∷ iana_field packet_delta_count 8
    ∷ iana_field octet_delta_count 8
    ∷ iana_field flow_start_milliseconds 8
    ∷ iana_field flow_end_milliseconds 8
    ∷ iana_field flow_end_reason 1
    ∷ []

-- The template for flows over IPv4.
abbrev pub v4_template : ℕ
v4_template = 256

abbrev pub v4_fields : List FieldSpec
v4_fields =
    iana_field source_ipv4_address 4 ∷ iana_field destination_ipv4_address 4 ∷ fields_behind_addresses

-- The template for flows over IPv6.
abbrev pub v6_template : ℕ
v6_template = 257

abbrev pub v6_fields : List FieldSpec
v6_fields =
    iana_field source_ipv6_address 16 ∷ iana_field destination_ipv6_address 16 ∷ fields_behind_addresses

-- The template of a flow record, by the IP version of its key.
unfoldable pub template_of : FlowRecord → ℕ
template_of flow = if flow.part.key.version == 4 then v4_template else v6_template

-- And the fields of that template.
abbrev pub fields_of : FlowRecord → List FieldSpec
fields_of flow = if flow.part.key.version == 4 then v4_fields else v6_fields

-- A field for the reverse of one of IANA's elements (RFC 5103).
abbrev pub reverse_field : ℕ → ℕ → FieldSpec
reverse_field element length = record { element = element; length = length; enterprise = Some reverse_enterprise }

-- What the templates for biflows have of the reverse flow, behind the fields of the forward one.
abbrev pub reverse_fields : List FieldSpec
reverse_fields =
    reverse_field tcp_control_bits 2
    ∷ reverse_field packet_delta_count 8
    ∷ reverse_field octet_delta_count 8
    ∷ reverse_field flow_start_milliseconds 8
    ∷ reverse_field flow_end_milliseconds 8
    ∷ reverse_field flow_end_reason 1
    ∷ []

-- The template for biflows over IPv4.
abbrev pub v4_bi_template : ℕ
v4_bi_template = 258

abbrev pub v4_bi_fields : List FieldSpec
v4_bi_fields = v4_fields ++ reverse_fields

-- The template for biflows over IPv6.
abbrev pub v6_bi_template : ℕ
v6_bi_template = 259

abbrev pub v6_bi_fields : List FieldSpec
v6_bi_fields = v6_fields ++ reverse_fields

-- The template of a biflow, by the IP version of its forward key, and its fields.
unfoldable pub bi_template_of : FlowRecord → ℕ
bi_template_of flow = if flow.part.key.version == 4 then v4_bi_template else v6_bi_template

abbrev pub bi_fields_of : FlowRecord → List FieldSpec
bi_fields_of flow = if flow.part.key.version == 4 then v4_bi_fields else v6_bi_fields
