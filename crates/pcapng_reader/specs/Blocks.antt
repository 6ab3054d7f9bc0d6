-- The blocks of a file (draft-ietf-opsawg-pcapng, section 3.1), each with the order of octets of its section
-- (section 4.1).
use Rattle.std.specs.Prelude.{ℕ, zero, suc, ◌-◌, ◌%◌, ◌==◌, ◌||◌, Bool, not, List, [], ◌∷◌, length, take, nat_lt}
use Rattle.std.specs.Prelude.{if◌then◌else◌, Option, Some, None, Result, Ok, Err}
use Rattle.octets.specs.declared.endianness.Endianness.{Endianness}
use Rattle.octets.specs.declared.endianness.Endianness.TheVariants as Order
use Rattle.octets.specs.Numbers.{ordered_number_at}
use Rattle.pcapng_reader.specs.declared.front.Front.{Front}

-- A block: where it begins in the file, the order of octets of its section, and all its octets.
pub record Block : Type 0 where
  pub at : ℕ
  pub order : Endianness
  pub part : List ℕ

-- The bytes begin with the type of a section header, which is the same four octets in either order.
abbrev pub begins_section : List ℕ → Bool
begins_section bytes = ordered_number_at Order.Big 0 4 bytes == 0x0a0d0d0a

-- The order of octets that the byte-order magic of a section header tells: the number 0x1a2b3c4d, at 8.
abbrev pub magic_order : List ℕ → Option Endianness
magic_order bytes =
    if ordered_number_at Order.Big 8 4 bytes == 0x1a2b3c4d then Some Order.Big
    else if ordered_number_at Order.Big 8 4 bytes == 0x4d3c2b1a then Some Order.Little
    else None

-- The order of octets of the block that the bytes begin with: a section header tells its own, and any other block has
-- that of the section which it stands in.
abbrev pub block_order : Endianness → List ℕ → Option Endianness
block_order section bytes = if begins_section bytes then magic_order bytes else Some section

-- The length that a block tells, of all its octets.
abbrev pub told_len : Endianness → List ℕ → ℕ
told_len order bytes = ordered_number_at order 4 4 bytes

-- No block has this length: a block has at least 12 octets, and a multiple of four of them.
abbrev pub is_no_len : ℕ → Bool
is_no_len len = nat_lt len 12 || not (len % 4 == 0)

-- What the bytes begin with, by the length that stands at 4. A block that goes beyond their end is the tail. The length
-- stands again as the last four octets of a block.
unfoldable pub sized_front : Endianness → List ℕ → Front
sized_front order bytes =
    let len = told_len order bytes in
    if is_no_len len then Front.Malformed
    else if nat_lt (length bytes) len then Front.Tail
    else if ordered_number_at order (len - 4) 4 bytes == len then Front.Block order len
    else Front.Malformed

-- The same by the order of octets, if it is known.
abbrev pub ordered_front : Option Endianness → List ℕ → Front
ordered_front None bytes = Front.Malformed
ordered_front (Some order) bytes = sized_front order bytes

-- What the bytes begin with, in a section of this order: a block, something malformed, or fewer octets than a block
-- has, which are the tail.
unfoldable pub front : Endianness → List ℕ → Front
front section bytes =
    if nat_lt (length bytes) 12 then Front.Tail
    else ordered_front (block_order section bytes) bytes

-- The blocks, one directly behind the other, of which the first begins behind the first `skip` of these bytes; `at`
-- octets of the file stand before the bytes. Where something malformed stands behind them, its place is the last of the
-- list, as a fault.
unfoldable pub pieces_from : Endianness → ℕ → ℕ → List ℕ → List (Result Block ℕ)
pieces_from section at skip [] = []
pieces_from section at (suc skip) (byte ∷ bytes) = pieces_from section (suc at) skip bytes
pieces_from section at zero (byte ∷ bytes) =
    elim (front section (byte ∷ bytes)) [
      | Front.Tail ↦ []
      | Front.Malformed ↦ Err at ∷ []
      | Front.Block order len ↦
          Ok (record { at = at; order = order; part = take len (byte ∷ bytes) })
          ∷ pieces_from order (suc at) (len - 1) bytes
    ]

-- The blocks of a file. Before its first section no order is known, and none is needed: the first block is a section
-- header.
abbrev pub pieces_of : List ℕ → List (Result Block ℕ)
pieces_of bytes = pieces_from Order.Little 0 0 bytes

-- The order of octets of the first section, where the bytes are a file of this format: there are 12 bytes or more,
-- which begin with the type of a section header and have a known magic.
abbrev pub file_order : List ℕ → Option Endianness
file_order bytes = if nat_lt (length bytes) 12 then None else if begins_section bytes then magic_order bytes else None
