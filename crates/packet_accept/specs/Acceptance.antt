-- Which answer a record gets: its packet, or the first cause for which it is ignored.
use Rattle.std.specs.Prelude.{◌==◌, ◌+◌, ◌-◌, ◌*◌, ◌/◌, ℕ, Bool, drop, Result, Ok, Err, nat_lt, if◌then◌else◌}
use Rattle.packet_headers.specs.Link.{link_part}
use Rattle.packet_headers.specs.Packet.{IpPart}
use Rattle.packet_headers.specs.Ip.{ip_part}
use Rattle.packet_headers.specs.Transport.{TransportPart, tcp_part, udp_part}
use Rattle.pcap_reader.specs.Records.{PacketRecord}
use Rattle.packet_accept.specs.declared.packet.Packet.{Packet}
use Rattle.packet_accept.specs.declared.ignored.Ignored.{Ignored}
use Rattle.packet_accept.specs.declared.ignored.Ignored.TheVariants.{BadTime}
use Rattle.octets.specs.Outcome.{◌>>=◌}
use Rattle.packet_accept.specs.Cause.{or_cause, or_short_transport}
use Rattle.packet_accept.specs.Key.{Headers, key_of}

-- A second has 1,000,000 microseconds and a millisecond 1,000; in nanoseconds they have a thousand times as many.
abbrev pub per_second : Bool → ℕ
per_second nanos = if nanos then 1000000000 else 1000000

abbrev pub per_millisecond : Bool → ℕ
per_millisecond nanos = if nanos then 1000000 else 1000

-- The time in whole milliseconds, rounded down. A fraction of a second or more is a bad time.
unfoldable pub time_of : Bool → ℕ → ℕ → Result ℕ Ignored
time_of nanos seconds fraction =
    if nat_lt fraction (per_second nanos) then Ok (seconds * 1000 + fraction / per_millisecond nanos)
    else Err BadTime

-- No ports and no control bits are zeros.
abbrev pub no_ports : TransportPart
no_ports = record { source_port = 0; destination_port = 0; flags = 0 }

-- The ports and the control bits. A fragment other than the first has no transport header. TCP has the protocol number
-- 6 and UDP 17; for any other protocol nothing is read.
unfoldable pub transport_part : IpPart → Result TransportPart Ignored
transport_part ip =
    if ip.later then Ok no_ports
    else if ip.protocol == 6 then or_short_transport (tcp_part ip.payload)
    else if ip.protocol == 17 then or_short_transport (udp_part ip.payload)
    else Ok no_ports

-- The headers of a record's frame: the link part, the IP packet behind it, and the transport header behind that.
-- The original length that is left for the IP packet is that of the frame less the link part, and 0 where the link
-- part is longer.
unfoldable pub headers_of : ℕ → PacketRecord → Result Headers Ignored
headers_of link rec = do
  frame ← or_cause (link_part link rec.captured)
  ip ← or_cause (ip_part frame.version (drop frame.offset rec.captured) (rec.original - frame.offset))
  transport ← transport_part ip
  Ok (record { ip = ip; transport = transport })

-- The answer to the record with number `n` of a capture of this link type, whose fractions of a second are nanoseconds
-- or microseconds: the time is checked first, then the headers.
unfoldable pub accepted_packet : ℕ → Bool → PacketRecord → ℕ → Result Packet Ignored
accepted_packet link nanos rec n = do
  time ← time_of nanos rec.seconds rec.fraction
  headers ← headers_of link rec
  key ← key_of headers
  Ok (record {
    number = n;
    key = key;
    time = time;
    octets = headers.ip.octets;
    flags = headers.transport.flags;
  })
