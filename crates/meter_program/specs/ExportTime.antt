-- The export time of a stream.
use Rattle.std.specs.Prelude.{ℕ, ◌/◌, Option, Some, None}

-- The export time: the clock in whole seconds, or 0 without a packet.
abbrev pub export_time : Option ℕ → ℕ
export_time None = 0
export_time (Some clock) = clock / 1000
