-- What follows a piece of a text.
use Rattle.std.specs.Prelude.{ℕ, List, [], Option, Some, None}
use Rattle.pebr_schedule.specs.Numbers.{pieces_of}

-- the pieces of what follows a place of a byte; none where the byte doesn't occur
abbrev pub pieces_after : ℕ → Option (List ℕ) → List (List ℕ)
pieces_after at None = []
pieces_after at (Some rest) = pieces_of at rest
