-- What is shown of each kind of step by itself.
use Rattle.std.specs.Prelude.{◌≡◌, ◌≢◌, ◌<◌, ◌≤◌, ◌⊎◌, ℕ, true, List, IsTrue, Option, slice_set}
use mathlib.Core.Option.{some}
use lib.ListN.{get_elem?}
use Rattle.pebr_core.specs.declared.kinds.Shape.{Shape}
use Rattle.pebr_core.specs.Kept.{IsSound}
use Rattle.pebr_core.specs.Runs.{KeepsUsedWords}
use Rattle.pebr_core.specs.Frames.{seat_of, LeavesTheRest, UsesBeginAtLoad, IsFreshAlone}
use Rattle.pebr_core.specs.declared.kinds.Step.{Step}
use Rattle.pebr_core.specs.State.{State, Seat, seat_at, has, slot_count}
use Rattle.pebr_core.specs.Steps.{is_enabled, after, answer_of}
use Rattle.pebr_words.specs.Places.{Place}
use Rattle.pebr_words.specs.Shown.{sign_at, Tells}
use Rattle.pebr_words.specs.Ruled.{IsIn, IsEjectionOf, Recalls, AreWhole, contents}
use Rattle.pebr_words.specs.Pasts.{Ejection, History, past_after}
use Rattle.pebr_core.specs.declared.kinds.Stance.TheVariants as stance
use Rattle.pebr_words.specs.Making.{place_of, known_after, answer_found, note_after, IsAsKnown}

-- A step leads from a core to a new one. It was made by a seat that knew this, at whose word 'found' was found and
-- 'left' stands afterwards.
pub record IsMade (core new : State) (step : Step) (found left : ℕ) (known : Seat) : Type 0 where
  pub shape : new.shape ≡ core.shape
  pub told : Tells (sign_at new (place_of step)) left
  pub signs : (q : Place) → q ≢ place_of step → sign_at new q ≡ sign_at core q
  pub own : IsAsKnown (known_after core.shape step found known) (seat_at new (seat_of step))
  pub others : (j : ℕ) (other : Seat) → j ≢ seat_of step → IsAsKnown other (seat_at core j)
      → IsAsKnown other (seat_at new j)
  pub epoch : core.epoch ≤ new.epoch
  -- an ejection that is new is listed
  pub ejected : (j epoch : ℕ) → (seat_at new j).status ≡ stance.Ejected epoch
      → ((seat_at core j).status ≡ stance.Ejected epoch)
      ⊎ ((e : Ejection) × IsEjectionOf new j epoch e
      × ((past : History) → IsIn e (past_after step (answer_found step known found) known past).ejections))
  pub answered : answer_found step known found ≡ answer_of core step

-- the laws of the core
pub record StepsAreSafe : Type 0 where
  pub sound : (core : State) (s : Step) → IsSound core → IsTrue (is_enabled core s) → IsSound (after core s)
  pub words : (core : State) (s : Step) → IsSound core → IsTrue (is_enabled core s) → KeepsUsedWords core (after core s)
  pub begin : (core : State) (s : Step) → UsesBeginAtLoad core s (after core s)
  pub rest : (core : State) (s : Step) → LeavesTheRest core s (after core s)
  pub fresh : (core : State) (i slot : ℕ) → IsSound core → slot < slot_count core.shape
      → has (seat_at core i).fresh slot ≡ true → IsFreshAlone core i slot

-- a kind of step is enabled, and made
abbrev pub IsMadeBy : Shape → Step → ℕ → Seat → (ℕ → ℕ) → Type 0
IsMadeBy shape s number known written =
    (core : State) (found : ℕ) → core.shape ≡ shape → IsSound core → number < shape.seats
    → IsAsKnown known (seat_at core number) → Tells (sign_at core (place_of s)) found
    → IsTrue (is_enabled core s) × IsMade core (after core s) s found (written found) known

-- a core in which the seat makes the step
pub record IsBefore (shape : Shape) (s : Step) (number : ℕ) (known : Seat) (past : History) (core : State)
    (found left : ℕ) : Type 0 where
  pub shape_is : core.shape ≡ shape
  pub sound : IsSound core
  pub numbered : seat_of s ≡ number
  pub inside : number < shape.seats
  pub as_known : IsAsKnown known (seat_at core number)
  pub recalls : Recalls core number past
  pub told : Tells (sign_at core (place_of s)) found
  pub enabled : IsTrue (is_enabled core s)
  pub made : IsMade core (after core s) s found left known
  -- with one seat, nobody is ejected
  pub alone : core.shape.seats ≡ 1 → (j epoch : ℕ) → (seat_at core j).status ≢ stance.Ejected epoch

-- The protocol keeps where contents and the seat's note are as the step leaves them, and contents that must be whole
-- are.
abbrev pub IsKeptBy : {N A : Type 0} → (List (List ℕ) → List N → Type 0) → (List N → List ℕ → Type 0) → (N → A → N)
    → Shape → Step → Option A → ℕ → Seat → History → N → (ℕ → ℕ) → Type 0
IsKeptBy {N} keeps whole after_act shape s act number known past note written =
    (law : StepsAreSafe) (core : State) (notes : List N) (found : ℕ)
    → IsBefore shape s number known past core found (written found)
    → keeps (contents core) notes → get_elem? notes number ≡ some note → AreWhole (whole notes) core
    → keeps (contents (after core s)) (slice_set notes number (note_after after_act s act found note))
    × AreWhole (whole (slice_set notes number (note_after after_act s act found note))) (after core s)

-- What the seat remembers after the step is true of the core after it.
abbrev pub IsRecalledBy : Shape → Step → ℕ → Seat → History → (ℕ → ℕ) → Type 0
IsRecalledBy shape s number known past written =
    (law : StepsAreSafe) (core : State) (found : ℕ) → IsBefore shape s number known past core found (written found)
    → Recalls (after core s) number (past_after s (answer_found s known found) known past)
