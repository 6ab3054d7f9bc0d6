-- What a step leaves as it was, and how many slots a scan keeps.
use Rattle.std.specs.Prelude.{◌≡◌, ◌≢◌, ℕ, ◌<◌, ◌⊎◌, false, count_by}
use Rattle.pebr_core.specs.State.{Seat, State, has, seat_at, root_at, word_at, shield_at, scan_of, is_retired}
use Rattle.pebr_core.specs.State.{retired_at}
use Rattle.pebr_core.specs.Kept.{Uses}
use Rattle.pebr_core.specs.declared.kinds.Step.{Step}
use Rattle.pebr_core.specs.declared.kinds.Step.TheVariants as step

-- the seat that steps
abbrev pub seat_of : Step → ℕ
seat_of (step.Note i) = i
seat_of (step.Pin i) = i
seat_of (step.Leave i) = i
seat_of (step.Advance i) = i
seat_of (step.Look i j) = i
seat_of (step.Eject i j) = i
seat_of (step.Load i root) = i
seat_of (step.Shield i place slot) = i
seat_of (step.Check i) = i
seat_of (step.Unshield i place) = i
seat_of (step.Read i slot word) = i
seat_of (step.Write i slot word value) = i
seat_of (step.Replace i root old new) = i
seat_of (step.Scan i j place) = i
seat_of (step.Give i) = i

-- A step changes the seat that steps alone, but for the status of the seat that an Eject names. It changes the root
-- that a Replace names alone, the word that a Write names alone, and the epoch at an Advance alone.
pub record LeavesTheRest (old : State) (s : Step) (new : State) : Type 0 where
  pub shape : new.shape ≡ old.shape
  pub epoch : s ≢ step.Advance (seat_of s) → new.epoch ≡ old.epoch
  pub seats : (j : ℕ) → j ≢ seat_of s → s ≢ step.Eject (seat_of s) j → seat_at new j ≡ seat_at old j
  pub statuses : (j : ℕ) → j ≢ seat_of s → seat_at new j ≡ record (seat_at old j) { status = (seat_at new j).status }
  pub roots : (root : ℕ) → ((slot fresh : ℕ) → s ≢ step.Replace (seat_of s) root slot fresh)
      → root_at new root ≡ root_at old root
  pub words : (slot word : ℕ) → ((value : ℕ) → s ≢ step.Write (seat_of s) slot word value)
      → word_at new slot word ≡ word_at old slot word

-- A slot that a seat uses after a step was used by it before, or the seat has just loaded it.
abbrev pub UsesBeginAtLoad : State → Step → State → Type 0
UsesBeginAtLoad old s new =
    (j slot : ℕ) → Uses (seat_at new j) slot
    → Uses (seat_at old j) slot ⊎ ((root : ℕ) × (s ≡ step.Load j root) × (root_at old root ≡ slot))

-- No seat's shield changes but by that seat's own step.
abbrev pub LeavesShields : State → Step → State → Type 0
LeavesShields old s new = (j place : ℕ) → j ≢ seat_of s
    → shield_at (seat_at new j) place ≡ shield_at (seat_at old j) place

-- The slot is a fresh one of this seat alone: no root has it, no other seat has it fresh, and no seat has it retired.
pub record IsFreshAlone (state : State) (i slot : ℕ) : Type 0 where
  pub roots : (root : ℕ) → root < state.shape.roots → root_at state root ≢ slot
  pub others : (j : ℕ) → j ≢ i → has (seat_at state j).fresh slot ≡ false
  pub retired : (j : ℕ) → is_retired (retired_at (seat_at state j) slot) ≡ false

-- how many slots the scan of a seat keeps
abbrev pub kept_count : Seat → ℕ
kept_count seat = count_by (λ mark. mark) (scan_of seat).kept

-- how many slots a seat has fresh, and how many retired
abbrev pub fresh_count : Seat → ℕ
fresh_count seat = count_by (λ mark. mark) seat.fresh

abbrev pub retired_count : Seat → ℕ
retired_count seat = count_by is_retired seat.retired
