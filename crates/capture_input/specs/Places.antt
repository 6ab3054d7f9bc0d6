-- How far a capture file was read in windows.
use Rattle.std.specs.Prelude.{◌≡◌, ℕ, ◌≤◌, List, [], ◌++◌, length, drop, Some, None}
use Rattle.pcap_reader.specs.File.{CaptureFile, capture_file}
use Rattle.pcap_reader.specs.Records.{rest_of, damage_of}
use Rattle.pcap_reader.specs.Parts.{part_with}
use Rattle.pcap_reader.specs.Views.{part_of}
use Rattle.pcap_reader.specs.declared.head.Head.{Head}

-- A capture file with this header, undamaged so far.
pub record IsSound (head : Head) (file : CaptureFile) : Type 0 where
  pub is_file : capture_file file.bytes ≡ Some file
  pub like : part_with file [] ≡ part_of head []
  pub long : file.start ≤ length file.bytes
  pub header : 24 ≤ length file.bytes
  pub undamaged : damage_of file ≡ None

-- From place `from` on, the window has what is left of the file behind its records, and then more bytes. All bytes of
-- the file and these were taken.
pub record IsAt (head : Head) (window : List ℕ) (from taken : ℕ) (file : CaptureFile) (more : List ℕ) : Type 0 where
  pub sound : IsSound head file
  pub low : from ≤ length window
  pub left : drop from window ≡ rest_of file ++ more
  pub count : taken ≡ length (file.bytes ++ more)
