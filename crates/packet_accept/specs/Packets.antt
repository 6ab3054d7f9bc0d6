-- The packets of a capture file.
use Rattle.std.specs.Prelude.{ℕ, List, map, Result}
use Rattle.std.specs.List.{filter_map, enumerate_from}
use Rattle.std.specs.Result.{result_ok}
use Rattle.pcap_reader.specs.File.{CaptureFile}
use Rattle.pcap_reader.specs.Records.{PacketRecord, records_of}
use Rattle.packet_accept.specs.declared.packet.Packet.{Packet}
use Rattle.packet_accept.specs.declared.ignored.Ignored.{Ignored}
use Rattle.packet_accept.specs.Acceptance.{accepted_packet}

-- The answer to a record of a file, by its place among the records, counted from 0.
abbrev pub answer_to : CaptureFile → ℕ × PacketRecord → Result Packet Ignored
answer_to file (place, rec) = accepted_packet file.link file.nanos rec place

-- The answers to the records of a file, in file order.
abbrev pub answers_of : CaptureFile → List (Result Packet Ignored)
answers_of file = map (answer_to file) (enumerate_from 0 (records_of file))

-- The packets among some answers, in their order.
abbrev pub packets_in : List (Result Packet Ignored) → List Packet
packets_in answers = filter_map result_ok answers

-- The packets of a file: those that its records give, in file order, each numbered by its record's place.
abbrev pub packets_of : CaptureFile → List Packet
packets_of file = packets_in (answers_of file)
