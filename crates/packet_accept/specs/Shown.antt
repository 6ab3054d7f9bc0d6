-- What contracts see of the headers of a packet, which borrow the captured bytes.
use Rattle.packet_headers.specs.Shown.{ip_shown}
use Rattle.packet_headers.specs.Transport.{TransportPart}
use Rattle.packet_accept.specs.Key.{Headers}
use Rattle.packet_accept.specs.declared.transport.Transport.{Transport}
use Rattle.packet_accept.specs.declared.headers.HeaderViews.{HeaderViews}

abbrev pub transport_shown : Transport → TransportPart
transport_shown t = record { source_port = t.source_port; destination_port = t.destination_port; flags = t.flags }

abbrev pub headers_shown : HeaderViews → Headers
headers_shown views = record { ip = ip_shown views.ip; transport = transport_shown views.transport }
