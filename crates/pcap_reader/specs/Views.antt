-- What contracts see of a capture and of a record that is read from it.
use Rattle.std.specs.Prelude.{ℕ, List}
use Rattle.link_types.specs.Links.{number_of}
use Rattle.pcap_reader.specs.File.{CaptureFile, file_header_len}
use Rattle.pcap_reader.specs.Records.{PacketRecord}
use Rattle.pcap_reader.specs.declared.header.FileHeader.{FileHeader}
use Rattle.pcap_reader.specs.declared.head.Head.{Head}
use Rattle.pcap_reader.specs.declared.capture.Capture.{Capture}
use Rattle.pcap_reader.specs.declared.record.Record.{Record}

-- the file that has these bytes and begins with this header
abbrev pub file_with : List ℕ → FileHeader → CaptureFile
file_with bytes h = record { bytes = bytes; start = file_header_len; order = h.order; nanos = h.nanos; link = h.link }

-- the file that a capture reads
abbrev pub file_of : Capture → CaptureFile
file_of c =
    record {
      bytes = c.bytes.now;
      start = c.start;
      order = c.head.order;
      nanos = c.head.nanos;
      link =
          number_of c.head.link;
    }

-- the file that begins with this header and has these bytes
abbrev pub headed_by : Head → List ℕ → CaptureFile
headed_by head bytes =
    record {
      bytes = bytes;
      start = file_header_len;
      order = head.order;
      nanos = head.nanos;
      link =
          number_of head.link;
    }

-- the part that has these bytes, of a file that begins with this header
abbrev pub part_of : Head → List ℕ → CaptureFile
part_of head bytes =
    record { bytes = bytes; start = 0; order = head.order; nanos = head.nanos; link = number_of head.link }

-- the packet record that was read
abbrev pub record_read : Record → PacketRecord
record_read r = record { seconds = r.seconds; fraction = r.fraction; original = r.original; captured = r.captured.now }
