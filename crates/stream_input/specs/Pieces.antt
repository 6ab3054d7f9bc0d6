-- The code's own: bytes that come through a window.
use Rattle.std.specs.Prelude.{◌≡◌, ◌+◌, ◌<◌, ℕ, List, ◌++◌, length, Option, Err, ⊤}
use Rattle.std.specs.Io.KnownBytes.{Consumes, IsAtEnd}
use Rattle.ipfix_reader.specs.Messages.{decode}
use Rattle.stream_input.specs.declared.error.StreamInputError.{StreamInputError}
use Rattle.stream_input.specs.declared.error.StreamInputError.TheVariants.{ReadFault, TooLarge, NotStream, NoMemory}

-- The window grew by bytes that the source gave. The number `old` fell by as many to `new`, which is still above 0.
pub record HasReadOn (old new : ℕ) (window grown : List ℕ) (before after : Option (List ℕ)) : Type 0 where
  pub got : List ℕ
  pub bytes : grown ≡ window ++ got
  pub taken : Consumes before after got
  pub counted : new + length got ≡ old
  pub some : 0 < new

-- The source gave all that it had left, fewer than `most` bytes.
pub record HasReadRest (most : ℕ) (before after : Option (List ℕ)) : Type 0 where
  pub rest : List ℕ
  pub taken : Consumes before after rest
  pub few : length rest < most
  pub ended : IsAtEnd after

-- Why reading stopped before the end: a read failed before `most` bytes came, or `most` bytes came.
abbrev pub StopsReading : ℕ → Option (List ℕ) → Option (List ℕ) → StreamInputError → Type 0
StopsReading most before after ReadFault = (got : List ℕ) × (length got < most) × Consumes before after got
StopsReading most before after TooLarge = (got : List ℕ) × (length got ≡ most) × Consumes before after got
StopsReading most before after (NotStream fault) = ⊥
StopsReading most before after NoMemory = ⊥

-- Why the bytes of a whole stream don't decode.
abbrev pub EndFails : List ℕ → StreamInputError → Type 0
EndFails bytes ReadFault = ⊥
EndFails bytes TooLarge = ⊥
EndFails bytes (NotStream fault) = decode bytes ≡ Err fault
EndFails bytes NoMemory = ⊤
