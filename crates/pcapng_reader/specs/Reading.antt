-- What a file tells, block by block (draft-ietf-opsawg-pcapng, section 4).
use Rattle.std.specs.Prelude.{ℕ, ◌+◌, ◌==◌, ◌&&◌, List, [], ◌∷◌, ◌++◌, length, slice_get, nat_le, if◌then◌else◌, Option}
use Rattle.std.specs.Prelude.{Some, None, Result, Ok, Err, option_map}
use Rattle.octets.specs.declared.endianness.Endianness.{Endianness}
use Rattle.octets.specs.Numbers.{ordered_number_at}
use Rattle.octets.specs.Outcome.{◌>>=◌}
use Rattle.pcap_reader.specs.Records.{most_captured}
use Rattle.pcapng_reader.specs.declared.interface.Interface.{Interface}
use Rattle.pcapng_reader.specs.declared.content.Content.{Content}
use Rattle.pcapng_reader.specs.Blocks.{Block, pieces_of}
use Rattle.pcapng_reader.specs.Options.{padded_length}
use Rattle.pcapng_reader.specs.Interfaces.{interface_told}
use Rattle.pcapng_reader.specs.Records.{LinkedRecord, enhanced_record, simple_record, captured_len}

-- A section header has 28 octets at least, and the major version, at 12, is 1.
unfoldable pub section_content : Endianness → List ℕ → Option Content
section_content order part =
    if nat_le 28 (length part) && ordered_number_at order 12 2 part == 1 then Some Content.Section else None

-- An enhanced packet has 32 octets at least. It names its interface at 8, which is one of the section's. It has at most
-- 262,144 captured octets, and, padded, they end before the second length.
unfoldable pub enhanced_content : List Interface → Endianness → List ℕ → Option Content
enhanced_content interfaces order part =
    if nat_le 32 (length part) && (nat_le (captured_len order part) most_captured
    && nat_le (28 + padded_length (captured_len order part) + 4) (length part))
    then option_map Content.Enhanced (slice_get interfaces (ordered_number_at order 8 4 part))
    else None

-- What a block tells, in a section with these interfaces so far, by its type, at 0: none where it is bad. A simple
-- packet has 16 octets at least. Blocks of other types are skipped unread.
unfoldable pub content_of : List Interface → Endianness → List ℕ → Option Content
content_of interfaces order part =
    let kind = ordered_number_at order 0 4 part in
    if kind == 0x0a0d0d0a then section_content order part
    else if kind == 1 then option_map Content.Described (interface_told order part)
    else if kind == 6 then enhanced_content interfaces order part
    else if kind == 3 then (if nat_le 16 (length part) then Some Content.Simple else None)
    else Some Content.Other

-- What was found so far: the interfaces of the section, and the records of all packets.
pub record Found : Type 0 where
  pub interfaces : List Interface
  pub records : List LinkedRecord

-- A section begins without interfaces. An interface is the next of its section, and a packet gives the next record.
abbrev pub with_content : Found → Block → Content → Found
with_content found block Content.Section = record { interfaces = []; records = found.records }
with_content found block (Content.Described interface) =
    record { interfaces = found.interfaces ++ interface ∷ []; records = found.records }
with_content found block (Content.Enhanced interface) =
    record {
      interfaces = found.interfaces;
      records =
          found.records ++ enhanced_record interface block.order block.part ∷ [];
    }
with_content found block Content.Simple =
    record { interfaces = found.interfaces; records = found.records ++ simple_record ∷ [] }
with_content found block Content.Other = found

-- A block's content, or the fault that the block at this place is bad.
abbrev pub or_bad : ℕ → Option Content → Result Content ℕ
or_bad at None = Err at
or_bad at (Some content) = Ok content

-- One block more.
abbrev pub with_block : Found → Block → Result Found ℕ
with_block found block = do
  content ← or_bad block.at (content_of found.interfaces block.order block.part)
  Ok (with_content found block content)

-- What these blocks tell, one after the other. The first that is malformed or bad is the fault.
abbrev pub with_pieces : Found → List (Result Block ℕ) → Result Found ℕ
with_pieces found [] = Ok found
with_pieces found (piece ∷ pieces) = do
  block ← piece
  next ← with_block found block
  with_pieces next pieces

-- Before the first block nothing was found.
abbrev pub nothing_found : Found
nothing_found = record { interfaces = []; records = [] }

-- What a file tells, or the place of its first block that is bad.
abbrev pub found_in : List ℕ → Result Found ℕ
found_in bytes = with_pieces nothing_found (pieces_of bytes)
