-- The IP packet of either version.
use Rattle.std.specs.Prelude.{◌==◌, ℕ, List, Result, Err, if◌then◌else◌}
use Rattle.packet_headers.specs.declared.fault.HeaderFault.{HeaderFault}
use Rattle.packet_headers.specs.declared.fault.HeaderFault.TheVariants.{NotIp}
use Rattle.packet_headers.specs.Packet.{IpPart}
use Rattle.packet_headers.specs.Ipv4.{ipv4_part}
use Rattle.packet_headers.specs.Ipv6.{ipv6_part}

-- The IP packet of this version at the front of what was captured, where the frame's original length leaves `original`
-- octets for it. There are two versions.
unfoldable pub ip_part : ℕ → List ℕ → ℕ → Result IpPart HeaderFault
ip_part version rest original =
    if version == 4 then ipv4_part rest original
    else if version == 6 then ipv6_part rest original
    else Err NotIp
