-- The captures of the generator: UDP over IPv4 (RFC 791, RFC 768) as raw IP, one packet each millisecond from 1000 s
-- on.
use Rattle.std.specs.Prelude.{ℕ, zero, suc, ◌+◌, ◌*◌, ◌/◌, ◌%◌, List, [], ◌++◌}
use Rattle.octets.specs.Numbers.{octets_of, ordered_octets}
use Rattle.octets.specs.declared.endianness.Endianness.TheVariants.{Little}
use Rattle.capture_maker.specs.Draws.{state_behind, number_of}

-- The file header: least significant octet first, microseconds, version 2.4, at most 65,535 octets captured, link type
-- 101 for raw IP.
abbrev pub file_header : List ℕ
file_header =
    ordered_octets Little 4 0xa1b2c3d4 ++ (ordered_octets Little 2 2 ++ (ordered_octets Little 2 4
    ++ (ordered_octets Little 4 0
    ++ (ordered_octets Little 4 0 ++ (ordered_octets Little 4 65535 ++ ordered_octets Little 4 101)))))

-- The record header of the packet of this number: its time, the 28 octets captured of it, and all its octets.
abbrev pub record_header : ℕ → ℕ → List ℕ
record_header number payload =
    ordered_octets Little 4 (1000 + number / 1000) ++ (ordered_octets Little 4 (number % 1000 * 1000)
    ++ (ordered_octets Little 4 28 ++ ordered_octets Little 4 (28 + payload)))

-- The IPv4 header without options: time to live 64, UDP, no checksum, from the address 10.0.0.0 plus the key's number
-- to 192.0.2.1.
abbrev pub ip_header : ℕ → ℕ → List ℕ
ip_header payload key =
    octets_of 2 0x4500 ++ (octets_of 2 (28 + payload) ++ (octets_of 4 0 ++ (octets_of 2 0x4011 ++ (octets_of 2 0
    ++ (octets_of 4 (0x0a000000 + key) ++ octets_of 4 0xc0000201)))))

-- The UDP header: from the port 1024 plus the key's number to port 53, no checksum.
abbrev pub udp_header : ℕ → ℕ → List ℕ
udp_header payload key =
    octets_of 2 (1024 + key) ++ (octets_of 2 53 ++ (octets_of 2 (8 + payload) ++ octets_of 2 0))

-- The record of a packet with `payload` octets of payload, of which none is captured.
abbrev pub packet_record : ℕ → ℕ → ℕ → List ℕ
packet_record number payload key = record_header number payload ++ (ip_header payload key ++ udp_header payload key)

-- So many packets from this number on. Each takes two draws: the first tells its payload, which is below 1000 octets,
-- and the second its key.
unfoldable pub packets_from : ℕ → ℕ → ℕ → ℕ → List ℕ
packets_from keys state number zero = []
packets_from keys state number (suc count) =
    packet_record number (number_of (state_behind state) % 1000) (number_of (state_behind (state_behind state)) % keys)
    ++ packets_from keys (state_behind (state_behind state)) (suc number) count

-- The capture of `packets` packets, whose keys are below `keys`. The seed is the first state.
abbrev pub capture_of : ℕ → ℕ → ℕ → List ℕ
capture_of seed packets keys = file_header ++ packets_from keys seed 0 packets
