-- The packets of a file, and the classic capture of raw IP that they are written as.
use Rattle.std.specs.Prelude.{ℕ, ◌+◌, ◌-◌, ◌<◌, ◌≤◌, ◌^◌, true, List, [], ◌∷◌, ◌++◌, length, map, drop, Option, Some}
use Rattle.std.specs.Prelude.{None, Result, Ok, Err, option_map}
use Rattle.std.specs.List.{concat, filter_map}
use Rattle.std.specs.Result.{result_ok}
use Rattle.octets.specs.declared.endianness.Endianness.TheVariants.{Little}
use Rattle.octets.specs.Numbers.{ordered_octets}
use Rattle.pcap_reader.specs.Records.{PacketRecord, most_captured}
use Rattle.packet_headers.specs.Link.{LinkPart, link_part}
use Rattle.packet_accept.specs.declared.packet.Packet.{Packet}
use Rattle.packet_accept.specs.declared.ignored.Ignored.{Ignored}
use Rattle.packet_accept.specs.Acceptance.{accepted_packet}
use Rattle.pcapng_reader.specs.Records.{LinkedRecord}

-- The packets among records: those that are accepted, numbered one by one from `number` on. Times are in nanoseconds.
-- Behind a link type that isn't read no IP packet is known.
abbrev pub packets_from : ℕ → List LinkedRecord → List Packet
packets_from number [] = []
packets_from number (linked ∷ records) =
    elim (accepted_packet linked.link true linked.rec number) [
      | Ok packet ↦ packet ∷ packets_from (number + 1) records
      | Err cause ↦ packets_from number records
    ]

-- A record as one of raw IP: what stands behind the link part, and as original length that of the frame less the link
-- part, or 0 where that is longer.
abbrev pub raw_record : PacketRecord → LinkPart → PacketRecord
raw_record rec frame = record {
  seconds = rec.seconds;
  fraction = rec.fraction;
  original = rec.original - frame.offset;
  captured = drop frame.offset rec.captured;
}

-- The same for an accepted record; none for any other.
abbrev pub raw_if : Result Packet Ignored → LinkedRecord → Option PacketRecord
raw_if (Ok packet) linked = option_map (raw_record linked.rec) (result_ok (link_part linked.link linked.rec.captured))
raw_if (Err cause) linked = None

abbrev pub raw_of : LinkedRecord → Option PacketRecord
raw_of linked = raw_if (accepted_packet linked.link true linked.rec 0) linked

-- The accepted records, as records of raw IP.
abbrev pub raw_records : List LinkedRecord → List PacketRecord
raw_records records = filter_map raw_of records

-- A number of four octets, the least significant first.
abbrev pub four_octets : ℕ → List ℕ
four_octets number = ordered_octets Little 4 number

-- The code's own: what stands in front of the captured octets of a record.
abbrev pub header_octets : PacketRecord → List ℕ
header_octets rec =
    four_octets rec.seconds
    ++ (four_octets rec.fraction ++ (four_octets (length rec.captured) ++ four_octets rec.original))

-- A record of a classic capture (draft-ietf-opsawg-pcap, section 5): seconds, fraction, captured and original length,
-- and the captured octets.
abbrev pub record_octets : PacketRecord → List ℕ
record_octets rec =
    four_octets rec.seconds
    ++ (four_octets rec.fraction ++ (four_octets (length rec.captured) ++ (four_octets rec.original ++ rec.captured)))

-- The header of a classic capture (draft-ietf-opsawg-pcap, section 4): least significant octet first and nanoseconds,
-- version 2.4, at most 262,144 captured octets a record, and raw IP, 101.
abbrev pub file_header : List ℕ
file_header = 0x4d ∷ 0x3c ∷ 0xb2 ∷ 0xa1 ∷ 2 ∷ 0 ∷ 4 ∷ 0 ∷ 0 ∷ 0 ∷ 0 ∷ 0 ∷ 0 ∷ 0 ∷ 0 ∷ 0 ∷ 0 ∷ 0 ∷ 4 ∷ 0 ∷ 0x65 ∷ 0 ∷ 0
    ∷ 0 ∷ []

-- What is written of a record: nothing where it isn't accepted.
abbrev pub octets_if : Option PacketRecord → List ℕ
octets_if None = []
octets_if (Some rec) = record_octets rec

abbrev pub octets_of_record : LinkedRecord → List ℕ
octets_of_record linked = octets_if (raw_of linked)

-- What is written of records, behind the header.
abbrev pub capture_of : List LinkedRecord → List ℕ
capture_of records = file_header ++ concat (map octets_of_record records)

-- A record whose numbers fit four octets, and with no more captured octets than a record may have.
pub record Fits (rec : PacketRecord) : Type 0 where
  pub seconds : rec.seconds < 2 ^ 32
  pub fraction : rec.fraction < 2 ^ 32
  pub original : rec.original < 2 ^ 32
  pub captured : length rec.captured ≤ most_captured

abbrev pub LinkedFits : LinkedRecord → Type 0
LinkedFits linked = Fits linked.rec
