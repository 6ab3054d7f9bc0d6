-- The answers to the records of a part of a capture.
use Rattle.std.specs.Prelude.{ℕ, List, map, Result}
use Rattle.std.specs.List.{enumerate_from}
use Rattle.pcap_reader.specs.File.{CaptureFile}
use Rattle.pcap_reader.specs.Records.{records_of}
use Rattle.pcap_reader.specs.Views.{file_of}
use Rattle.packet_accept.specs.declared.packet.Packet.{Packet}
use Rattle.packet_accept.specs.declared.ignored.Ignored.{Ignored}
use Rattle.packet_accept.specs.Packets.{answer_to}
use Rattle.capture_input.specs.declared.part.Part.{Part}

-- An answer to a record: a packet, or why it gives none.
abbrev pub Answer : Type 0
Answer = Result Packet Ignored

-- The answers to the records, in order; the first of them has the number `base` in the whole capture.
abbrev pub answers_from : ℕ → CaptureFile → List Answer
answers_from base file = map (answer_to file) (enumerate_from base (records_of file))

-- The answers to the records of a part.
abbrev pub answers_by : Part → List Answer
answers_by part = answers_from part.base (file_of part.capture)
