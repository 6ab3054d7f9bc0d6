-- How many bytes were taken from a source, by what it had left before and has left now, where it tells that.
use Rattle.std.specs.Prelude.{◌≡◌, ℕ, ◌≤◌, List, length}
use Rattle.std.specs.declared.option.Option.{Option}
use Rattle.std.specs.Io.KnownBytes.{Consumes}

-- exactly `count` bytes were taken
abbrev pub Takes : ℕ → Option (List ℕ) → Option (List ℕ) → Type 0
Takes count before now = (bytes : List ℕ) × (length bytes ≡ count) × Consumes before now bytes

-- at most `count` bytes were taken
abbrev pub TakesAtMost : ℕ → Option (List ℕ) → Option (List ℕ) → Type 0
TakesAtMost count before now = (bytes : List ℕ) × (length bytes ≤ count) × Consumes before now bytes
