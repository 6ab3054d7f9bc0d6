-- The code's own: what an index keeps of each packet, and what contracts see of captures and records.
use Rattle.std.specs.Prelude.{ℕ, ◌≡◌, ◌+◌, ◌<◌, ◌≤◌, List, All, map, length, slice_range, Ok, ⊤}
use Rattle.octets.specs.declared.endianness.Endianness.{Endianness}
use Rattle.pcap_reader.specs.Records.{most_captured}
use Rattle.pcap_reader.specs.Views.{record_read}
use Rattle.pcapng_reader.specs.declared.interface.Interface.{Interface}
use Rattle.pcapng_reader.specs.declared.index.Place.{Place}
use Rattle.pcapng_reader.specs.declared.content.Content.{Content}
use Rattle.pcapng_reader.specs.declared.record.PngRecord.{PngRecord}
use Rattle.pcapng_reader.specs.Records.{LinkedRecord, enhanced_record, simple_record, captured_len}
use Rattle.pcapng_reader.specs.Reading.{Found, found_in}

-- The record of the packet at a place.
abbrev pub record_at : List ℕ → Place → LinkedRecord
record_at bytes (Place.Enhanced from to order interface) = enhanced_record interface order (slice_range bytes from to)
record_at bytes Place.Simple = simple_record

-- A block has whole headers, and the captured octets that it claims.
pub record IsWhole (order : Endianness) (part : List ℕ) : Type 0 where
  pub header : 32 ≤ length part
  pub small : captured_len order part ≤ most_captured
  pub whole : 28 + captured_len order part ≤ length part

-- There is at least one unit of time in a second.
abbrev pub HasUnits : Interface → Type 0
HasUnits interface = 0 < interface.units

-- A place is one of an enhanced packet that stands whole in the file.
pub record IsPacketAt (bytes : List ℕ) (from to : ℕ) (order : Endianness) (interface : Interface) : Type 0 where
  pub forward : from ≤ to
  pub within : to ≤ length bytes
  pub units : HasUnits interface
  pub block : IsWhole order (slice_range bytes from to)

abbrev pub IsPlaceIn : List ℕ → Place → Type 0
IsPlaceIn bytes (Place.Enhanced from to order interface) = IsPacketAt bytes from to order interface
IsPlaceIn bytes Place.Simple = ⊤

-- What a block tells can be used.
abbrev pub IsSound : Endianness → List ℕ → Content → Type 0
IsSound order part (Content.Described interface) = HasUnits interface
IsSound order part (Content.Enhanced interface) = HasUnits interface × IsWhole order part
IsSound order part Content.Section = ⊤
IsSound order part Content.Simple = ⊤
IsSound order part Content.Other = ⊤

-- The records of these places.
abbrev pub records_at : List ℕ → List Place → List LinkedRecord
records_at bytes places = map (record_at bytes) places

-- What was found in the file so far, by the interfaces of the section and the places of the packets.
abbrev pub found_at : List ℕ → List Interface → List Place → Found
found_at bytes interfaces places = record { interfaces = interfaces; records = records_at bytes places }

-- The index is this file's: it has the place of each of its records.
pub record IsIndexOf (places : List Place) (bytes : List ℕ) : Type 0 where
  pub interfaces : List Interface
  pub found : found_in bytes ≡ Ok (found_at bytes interfaces places)
  pub whole : All (IsPlaceIn bytes) places

-- The record that was read.
abbrev pub linked_read : PngRecord → LinkedRecord
linked_read r = record { link = r.link; rec = record_read r.rec }
