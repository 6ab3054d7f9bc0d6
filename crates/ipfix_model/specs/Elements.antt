-- The information elements of a flow, as IANA's registry of IPFIX information elements has them (RFC 7012): the number
-- of each, by its name, and its abstract data type.
use Rattle.std.specs.Prelude.{ℕ, ◌==◌, List, [], ◌∷◌, Option}
use Rattle.std.specs.Map.{lookup}
use Rattle.ipfix_model.specs.declared.elements.AbstractType.{AbstractType}
use Rattle.ipfix_model.specs.declared.elements.AbstractType.TheVariants.{Unsigned8, Unsigned16, Unsigned64, Ipv4Address}
use Rattle.ipfix_model.specs.declared.elements.AbstractType.TheVariants.{Ipv6Address, DateTimeMilliseconds}

-- octetDeltaCount
abbrev pub octet_delta_count : ℕ
octet_delta_count = 1

-- packetDeltaCount
abbrev pub packet_delta_count : ℕ
packet_delta_count = 2

-- protocolIdentifier
abbrev pub protocol_identifier : ℕ
protocol_identifier = 4

-- tcpControlBits
abbrev pub tcp_control_bits : ℕ
tcp_control_bits = 6

-- sourceTransportPort
abbrev pub source_transport_port : ℕ
source_transport_port = 7

-- sourceIPv4Address
abbrev pub source_ipv4_address : ℕ
source_ipv4_address = 8

-- destinationTransportPort
abbrev pub destination_transport_port : ℕ
destination_transport_port = 11

-- destinationIPv4Address
abbrev pub destination_ipv4_address : ℕ
destination_ipv4_address = 12

-- sourceIPv6Address
abbrev pub source_ipv6_address : ℕ
source_ipv6_address = 27

-- destinationIPv6Address
abbrev pub destination_ipv6_address : ℕ
destination_ipv6_address = 28

-- flowEndReason
abbrev pub flow_end_reason : ℕ
flow_end_reason = 136

-- flowStartMilliseconds
abbrev pub flow_start_milliseconds : ℕ
flow_start_milliseconds = 152

-- flowEndMilliseconds
abbrev pub flow_end_milliseconds : ℕ
flow_end_milliseconds = 153

-- The enterprise of reverse elements: under it the number of one of IANA's elements stands for the reverse of that one
-- (RFC 5103, section 6.1).
abbrev pub reverse_enterprise : ℕ
reverse_enterprise = 29305

-- The abstract data types of these elements (RFC 7012, section 3.1).
abbrev pub abstract_types : List (ℕ × AbstractType)
abstract_types =
    (octet_delta_count, Unsigned64)
    ∷ (packet_delta_count, Unsigned64)
    ∷ (protocol_identifier, Unsigned8)
    ∷ (tcp_control_bits, Unsigned16)
    ∷ (source_transport_port, Unsigned16)
    ∷ (source_ipv4_address, Ipv4Address)
    ∷ (destination_transport_port, Unsigned16)
    ∷ (destination_ipv4_address, Ipv4Address)
    ∷ (source_ipv6_address, Ipv6Address)
    ∷ (destination_ipv6_address, Ipv6Address)
    ∷ (flow_end_reason, Unsigned8)
    ∷ (flow_start_milliseconds, DateTimeMilliseconds)
    ∷ (flow_end_milliseconds, DateTimeMilliseconds)
    ∷ []

-- The abstract data type of an element, where it is one of these.
unfoldable pub abstract_type : ℕ → Option AbstractType
abstract_type element = lookup (λ other. element == other) abstract_types
