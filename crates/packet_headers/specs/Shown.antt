-- What contracts see of the views, which borrow the captured bytes.
use Rattle.std.specs.Prelude.{◌≡◌, ◌<◌, ℕ, List, length, Ok}
use Rattle.packet_headers.specs.declared.link.LinkView.{LinkView}
use Rattle.packet_headers.specs.declared.ipv4.Ipv4View.{Ipv4View}
use Rattle.packet_headers.specs.declared.ipv6.Ipv6View.{Ipv6View}
use Rattle.packet_headers.specs.declared.ip.IpView.{IpView}
use Rattle.packet_headers.specs.declared.extensions.UpperView.{UpperView}
use Rattle.packet_headers.specs.declared.extensions.Step.{Step}
use Rattle.packet_headers.specs.declared.extensions.Step.TheVariants.{Ends, GoesOn}
use Rattle.packet_headers.specs.Link.{LinkPart}
use Rattle.packet_headers.specs.Packet.{IpPart}
use Rattle.packet_headers.specs.Extensions.{Upper, upper_part}

abbrev pub link_shown : LinkView → LinkPart
link_shown view = record { version = view.version; offset = view.offset }

abbrev pub ipv4_shown : Ipv4View → IpPart
ipv4_shown view = record {
  version = 4;
  octets = view.octets;
  source = view.source;
  destination = view.destination;
  protocol = view.protocol;
  later = view.later;
  payload = view.payload.now;
}

abbrev pub ipv6_shown : Ipv6View → IpPart
ipv6_shown view = record {
  version = 6;
  octets = view.octets;
  source = view.source;
  destination = view.destination;
  protocol = view.protocol;
  later = view.later;
  payload = view.payload.now;
}

abbrev pub ip_shown : IpView → IpPart
ip_shown view = record {
  version = view.version;
  octets = view.octets;
  source = view.source;
  destination = view.destination;
  protocol = view.protocol;
  later = view.later;
  payload = view.payload.now;
}

abbrev pub upper_shown : UpperView → Upper
upper_shown view = record { protocol = view.protocol; later = view.later; payload = view.payload.now }

-- The code's own: a step ends the walk with its answer, or leaves fewer octets that have the same answer.
abbrev pub StepGives : ℕ → List ℕ → Step → Type 0
StepGives next headers (Ends view) = upper_part next headers ≡ Ok (upper_shown view)
StepGives next headers (GoesOn named behind) =
    (upper_part next headers ≡ upper_part named behind.now) × (length behind.now < length headers)
