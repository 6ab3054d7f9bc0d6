-- Which operation on its word each kind of step is.
use Rattle.std.specs.Prelude.{◌≡◌, ℕ, ◌+◌, ◌*◌}
use Rattle.pebr_table.specs.Operations.{Op}
use Rattle.pebr_table.specs.Operations as op
use Rattle.pebr_core.specs.declared.kinds.Shape.{Shape}
use Rattle.pebr_core.specs.declared.kinds.Step.{Step}
use Rattle.pebr_core.specs.declared.kinds.Step.TheVariants as step
use Rattle.pebr_core.specs.State.{Seat}
use Rattle.pebr_core.specs.Steps.{found_epoch}
use Rattle.pebr_words.specs.Places.{index}
use Rattle.pebr_words.specs.Making.{place_of}

-- The operation at a word, by a seat that knows this, which found this number. Note, Look, Load, Check, Read, Scan and
-- Give load. Pin, Leave, Shield, Unshield and Write store. Advance, Eject and Replace compare and exchange.
abbrev pub operation_at : ℕ → Step → Seat → ℕ → Op
operation_at word (step.Note i) seat found = op.load word found
operation_at word (step.Pin i) seat found = op.store word (4 * seat.noted + 1)
operation_at word (step.Leave i) seat found = op.store word (4 * seat.noted)
operation_at word (step.Advance i) seat found = op.exchange word seat.noted (seat.noted + 1) found
operation_at word (step.Look i j) seat found = op.load word found
operation_at word (step.Eject i j) seat found =
    op.exchange word (4 * found_epoch seat j + 1) (4 * found_epoch seat j + 2) found
operation_at word (step.Load i root) seat found = op.load word found
operation_at word (step.Shield i place slot) seat found = op.store word (slot + 1)
operation_at word (step.Check i) seat found = op.load word found
operation_at word (step.Unshield i place) seat found = op.store word 0
operation_at word (step.Read i slot n) seat found = op.load word found
operation_at word (step.Write i slot n value) seat found = op.store word value
operation_at word (step.Replace i root old new) seat found = op.exchange word old new found
operation_at word (step.Scan i j place) seat found = op.load word found
operation_at word (step.Give i) seat found = op.load word found

-- the operation at the step's own word
abbrev pub operation_of : Shape → Step → Seat → ℕ → Op
operation_of shape s = operation_at (index shape (place_of s)) s

-- these operations are the step's own, whatever is found
abbrev pub IsOwn : Shape → Step → Seat → (ℕ → Op) → Type 0
IsOwn shape s known made = (found : ℕ) → operation_of shape s known found ≡ made found
