-- Why a source isn't read as a stream.
use Rattle.std.specs.Prelude.{◌≡◌, ℕ, Err, ⊤}
use Rattle.meter_io.specs.Reading.{TakesAtMost}
use Rattle.meter_io.specs.Sides.{Side, IsTooLarge, IsWrong}
use Rattle.ipfix_reader.specs.Messages.{decode}
use Rattle.stream_input.specs.declared.error.StreamInputError.{StreamInputError}
use Rattle.stream_input.specs.declared.error.StreamInputError.TheVariants.{ReadFault, TooLarge, NotStream, NoMemory}

-- Why a source of at most `limit` bytes isn't read as a stream: a read failed before more came; more came; or it was
-- read to its end, and decoding all its bytes gives this fault. Of out of memory nothing is said.
abbrev pub ReadFails : ℕ → Side → StreamInputError → Type 0
ReadFails limit input ReadFault = TakesAtMost limit input.before input.after
ReadFails limit input TooLarge = IsTooLarge input limit
ReadFails limit input (NotStream fault) = IsWrong input limit (λ bytes. decode bytes ≡ Err fault)
ReadFails limit input NoMemory = ⊤
