-- Parts of a stream.
use Rattle.std.specs.Prelude.{ℕ, ◌+◌, ◌==◌, Bool, List, take, drop}
use Rattle.std.specs.List.{list_all}

-- Bytes of a stream, and the offset in it of the first of them.
pub record Part : Type 0 where
  pub at : ℕ
  pub bytes : List ℕ

-- What lies behind its first `size` bytes.
abbrev pub behind : ℕ → Part → Part
behind size part = record { at = part.at + size; bytes = drop size part.bytes }

-- Its first `size` bytes.
abbrev pub first_part : ℕ → Part → Part
first_part size part = record { at = part.at; bytes = take size part.bytes }

-- All bytes are 0.
abbrev pub are_zeros : List ℕ → Bool
are_zeros bytes = list_all (λ byte. byte == 0) bytes
