-- The file header (draft-ietf-opsawg-pcap, section 4).
use Rattle.std.specs.Prelude.{ℕ, ◌==◌, ◌&&◌, Bool, true, false, List, length, nat_lt, if◌then◌else◌, Option, Some, None}
use Rattle.std.specs.Option.{option_and_then}
use Rattle.std.specs.Prelude.{IsSomeAnd}
use Rattle.octets.specs.Numbers.{ordered_number_at}
pub use Rattle.link_types.specs.Links.{IsKnownLink}
use Rattle.octets.specs.declared.endianness.Endianness.{Endianness}
use Rattle.octets.specs.declared.endianness.Endianness.TheVariants.{Little, Big}

-- A capture file, or a part of one: all its bytes, where its records begin, the order of the bytes in its fields,
-- whether its fractions of a second are nanoseconds, and its link type.
pub record CaptureFile : Type 0 where
  pub bytes : List ℕ
  pub start : ℕ
  pub order : Endianness
  pub nanos : Bool
  pub link : ℕ

-- The file header has 24 bytes.
abbrev pub file_header_len : ℕ
file_header_len = 24

-- What the magic number tells: the order of the bytes in all other fields, and whether fractions are
-- nanoseconds. Each of the four is written as its bytes stand in the file.
abbrev pub told_by_magic : ℕ → Option (Endianness × Bool)
told_by_magic magic =
    if magic == 0xd4c3b2a1 then Some (Little, false) else
    if magic == 0xa1b2c3d4 then Some (Big, false) else
    if magic == 0x4d3cb2a1 then Some (Little, true) else
    if magic == 0xa1b23c4d then Some (Big, true) else None

-- The major version, two bytes from 4 on, is 2, and the minor version, two bytes from 6 on, is 4.
abbrev pub is_version_2_4 : Endianness → List ℕ → Bool
is_version_2_4 order bytes = ordered_number_at order 4 2 bytes == 2 && ordered_number_at order 6 2 bytes == 4

-- The capture file that the bytes are, where they begin with a file header. Its records begin behind the header. The
-- link type is the whole last field, four bytes from 20 on. The fields between the version and the link type are not
-- read.
unfoldable pub capture_file : List ℕ → Option CaptureFile
capture_file bytes =
    if nat_lt (length bytes) file_header_len then None else
    option_and_then
    (λ m. if is_version_2_4 m.0 bytes
    then Some
    (record {
      bytes = bytes;
      start = file_header_len;
      order = m.0;
      nanos = m.1;
      link =
          ordered_number_at m.0 20 4 bytes;
    })
    else None)
    (told_by_magic (ordered_number_at Big 0 4 bytes))

-- The bytes are a capture file of this kind.
abbrev pub IsCaptureOf : (CaptureFile → Type 0) → List ℕ → Type 0
IsCaptureOf kind bytes = IsSomeAnd (capture_file bytes) kind
