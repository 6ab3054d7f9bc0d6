-- What contracts see of a source and of a sink in memory.
use Rattle.std.specs.Prelude.{ℕ, ◌-◌, min, List, length}
use Rattle.meter_io.specs.Causes.{one_more}

-- bytes to be read in pieces; the calls that `fails` names, counted from 1, fail, and `faults` counts the failed ones
pub record SourceState : Type 0 where
  pub left : List ℕ
  pub piece : ℕ
  pub fails : List ℕ
  pub calls : ℕ
  pub faults : ℕ

-- bytes taken in pieces up to `room` of them; the calls that `fails` names, counted from 1, fail, and those that find
-- no room; `faults` counts the failed ones
pub record SinkState : Type 0 where
  pub held : List ℕ
  pub room : ℕ
  pub piece : ℕ
  pub fails : List ℕ
  pub calls : ℕ
  pub faults : ℕ

-- the number of the next call, which stays at its greatest value
abbrev pub next_call : ℕ → ℕ
next_call calls = one_more calls

-- how many bytes one read of a source gives into a buffer
abbrev pub given_count : SourceState → ℕ → ℕ
given_count s buffer = min (min s.piece buffer) (length s.left)

-- how many bytes one write to a sink takes of a piece
abbrev pub taken_count : SinkState → ℕ → ℕ
taken_count s offered = min (min s.piece offered) (s.room - length s.held)
