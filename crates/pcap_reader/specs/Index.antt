-- What an index of a capture holds.
use Rattle.std.specs.Prelude.{ℕ, ◌≡◌, List, length}
use Rattle.pcap_reader.specs.File.{CaptureFile}
use Rattle.pcap_reader.specs.Records.{record_offsets, records_of, tail_of}

-- Where records begin, and how many bytes are left behind them.
pub record Offsets : Type 0 where
  pub offsets : List ℕ
  pub tail : ℕ

-- The index is this file's: it has the place of each of its records, and the length of its tail.
pub record IsIndexOf (index : Offsets) (file : CaptureFile) : Type 0 where
  pub offsets : index.offsets ≡ record_offsets file
  pub tail : index.tail ≡ tail_of file
  pub count : length index.offsets ≡ length (records_of file)
