-- Why a record gives no packet.
use Rattle.std.specs.Prelude.{Result, Ok, Err}
use Rattle.packet_headers.specs.declared.fault.HeaderFault.{HeaderFault}
use Rattle.packet_headers.specs.declared.fault.HeaderFault.TheVariants as Fault
use Rattle.packet_accept.specs.declared.ignored.Ignored.{Ignored}
use Rattle.packet_accept.specs.declared.ignored.Ignored.TheVariants.{NotIp, Short, BadHeader, ShortTransport}

-- A fault of the link part or of an IP header is the cause of the same name.
abbrev pub cause_of : HeaderFault → Ignored
cause_of Fault.Short = Short
cause_of Fault.NotIp = NotIp
cause_of Fault.BadHeader = BadHeader

abbrev pub or_cause : {A : Type 0} → Result A HeaderFault → Result A Ignored
or_cause (Ok part) = Ok part
or_cause (Err fault) = Err (cause_of fault)

-- Any fault of a transport header is that it ends too early.
abbrev pub or_short_transport : {A : Type 0} → Result A HeaderFault → Result A Ignored
or_short_transport (Ok part) = Ok part
or_short_transport (Err fault) = Err ShortTransport
