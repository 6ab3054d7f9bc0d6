-- A capture file that is read in parts.
use Rattle.std.specs.Prelude.{◌≡◌, ◌+◌, ◌≤◌, ◌⊎◌, ◌<◌, ℕ, List, [], ◌∷◌, ◌++◌, length, drop, take, flat_map, Some, None}
use Rattle.std.specs.List.{concat}
use Rattle.std.specs.Option.{option_map}
use Rattle.pcap_reader.specs.File.{CaptureFile, capture_file}
use Rattle.pcap_reader.specs.Records.{parts_of, rest_offset, rest_of, records_of, damage_of}

-- The file with more bytes behind it.
abbrev pub grown_file : CaptureFile → List ℕ → CaptureFile
grown_file file more =
    record { bytes = file.bytes ++ more; start = file.start; order = file.order; nanos = file.nanos; link = file.link }

-- A part of the file: bytes that are read as the file is, and whose records begin at their first byte.
abbrev pub part_with : CaptureFile → List ℕ → CaptureFile
part_with file bytes = record { bytes = bytes; start = 0; order = file.order; nanos = file.nanos; link = file.link }

-- The parts that pieces of bytes make: each part is a piece with the rest of the part before it in front.
abbrev pub parts_from : CaptureFile → List ℕ → List (List ℕ) → List CaptureFile
parts_from file left [] = []
parts_from file left (piece ∷ pieces) =
    part_with file (left ++ piece) ∷ parts_from file (rest_of (part_with file (left ++ piece))) pieces

-- What more bytes bring. The records behind those of the file are those of the part that begins with its rest; the rest
-- is that part's; and so is the damage, its place counted from where that part begins.
pub record GoesOn (file : CaptureFile) (more : List ℕ) : Type 0 where
  pub records : records_of (grown_file file more) ≡ records_of file
      ++ records_of (part_with file (rest_of file ++ more))
  pub rest : rest_of (grown_file file more) ≡ rest_of (part_with file (rest_of file ++ more))
  pub damage : damage_of (grown_file file more)
      ≡ option_map (λ at. rest_offset file + at) (damage_of (part_with file (rest_of file ++ more)))

-- The file is read in these parts: its bytes behind the file header are cut into pieces, anywhere, and the pieces make
-- the parts. The first part has no rest in front.
pub record IsReadIn (file : CaptureFile) (parts : List CaptureFile) : Type 0 where
  pub pieces : List (List ℕ)
  pub cut : drop file.start file.bytes ≡ concat pieces
  pub come : parts ≡ parts_from file [] pieces

-- The file up to where its records begin: a file without records.
abbrev pub front_of : CaptureFile → CaptureFile
front_of file =
    record {
      bytes = take file.start file.bytes;
      start = file.start;
      order = file.order;
      nanos = file.nanos;
      link =
          file.link;
    }

-- The file is that front, and more.
pub record GrowsFromFront (file : CaptureFile) : Type 0 where
  pub is_file : capture_file (front_of file).bytes ≡ Some (front_of file)
  pub long : file.start ≤ length (front_of file).bytes
  pub whole : grown_file (front_of file) (drop file.start file.bytes) ≡ file
  pub none : records_of (front_of file) ≡ []
  pub rest : rest_of (front_of file) ≡ []
  pub sound : damage_of (front_of file) ≡ None

-- Where a part's bytes begin in the file, by the parts before it: behind the file header and all their records.
abbrev pub place_behind : CaptureFile → List CaptureFile → ℕ
place_behind file earlier = file.start + length (concat (flat_map parts_of earlier))

-- A whole record, or damage, stands where the file's records begin.
abbrev pub BeginsWithMore : CaptureFile → Type 0
BeginsWithMore file = (0 < length (records_of file)) ⊎ (damage_of file ≡ Some file.start)
