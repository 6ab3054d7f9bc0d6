-- The key of a packet.
use Rattle.std.specs.Prelude.{Option, Some, None, Result, Ok, Err}
use Rattle.flow_key.specs.declared.key.FlowKey.{FlowKey}
use Rattle.flow_key.specs.Fields.{KeyFields}
use Rattle.flow_key.specs.KeyWith.{key_with}
use Rattle.packet_headers.specs.Packet.{IpPart}
use Rattle.packet_headers.specs.Transport.{TransportPart}
use Rattle.packet_accept.specs.declared.ignored.Ignored.{Ignored}
use Rattle.packet_accept.specs.declared.ignored.Ignored.TheVariants.{BadHeader}

-- What the headers of a packet tell: of IP, and of the transport.
pub record Headers : Type 0 where
  pub ip : IpPart
  pub transport : TransportPart

-- The six fields of the key: version, addresses and protocol of IP, and the ports.
abbrev pub key_fields : Headers → KeyFields
key_fields headers = record {
  version = headers.ip.version;
  source = headers.ip.source;
  destination = headers.ip.destination;
  protocol = headers.ip.protocol;
  source_port = headers.transport.source_port;
  destination_port = headers.transport.destination_port;
}

-- The key that has these fields. What octets hold always fits; numbers that don't fit are in no header.
abbrev pub or_bad_header : Option FlowKey → Result FlowKey Ignored
or_bad_header (Some key) = Ok key
or_bad_header None = Err BadHeader

abbrev pub key_of : Headers → Result FlowKey Ignored
key_of headers = or_bad_header (key_with (key_fields headers))
