-- How a core step is made on the words: which seat steps, at which word, and what the number found there makes of what
-- the seat knows.
use Rattle.std.specs.Prelude.{◌≡◌, ℕ, ◌+◌, ◌-◌, ◌*◌, ◌/◌, ◌%◌, List, [], ◌∷◌, Option, Some, None, if◌then◌else◌, ◌==◌}
use Rattle.std.specs.Prelude.{IsTrue, ◌⊎◌, count_by}
use Rattle.pebr_core.specs.declared.kinds.Shape.{Shape}
use Rattle.pebr_core.specs.declared.kinds.Stance.{Stance}
use Rattle.pebr_core.specs.declared.kinds.Stance.TheVariants as stance
use Rattle.pebr_core.specs.declared.kinds.ShieldAt.TheVariants as shield
use Rattle.pebr_core.specs.declared.kinds.Step.{Step}
use Rattle.pebr_core.specs.declared.kinds.Step.TheVariants as step
use Rattle.pebr_core.specs.declared.kinds.Answer.{Answer}
use Rattle.pebr_core.specs.declared.kinds.Answer.TheVariants as answer
use Rattle.pebr_core.specs.State.{Seat, State, nobody, seat_at, scan_of, is_retired}
use Rattle.pebr_core.specs.Steps.{can_pass, epoch_of, found_epoch, found_under, check_answer, given_slots, is_enabled}
use Rattle.pebr_core.specs.Steps.{after}
use Rattle.pebr_core.specs.Steps.{answer_of, after_note, after_pin, after_leave, after_look, after_pass, after_load}
use Rattle.pebr_core.specs.Steps.{after_shield, after_check, after_replace, after_scan, after_give}
use Rattle.pebr_core.specs.Kept.{IsSound}
use Rattle.pebr_words.specs.declared.views.Held.{Held}
use Rattle.pebr_core.specs.Frames.{seat_of}
use Rattle.pebr_words.specs.Pasts.{History, no_history, past_after}
use Rattle.pebr_words.specs.Places.{Place, epoch_word, status_word, shield_word, root_word, slot_word}

-- the status that a status word tells
abbrev pub stance_from : ℕ → Stance
stance_from word = if word % 4 == 1 then stance.In (word / 4)
    else (if word % 4 == 2 then stance.Ejected (word / 4) else stance.Out)

-- the slot that a shield word tells
abbrev pub slot_from : ℕ → Option ℕ
slot_from word = if word == 0 then None else Some (word - 1)

abbrev pub place_of : Step → Place
place_of (step.Note i) = epoch_word
place_of (step.Pin i) = status_word i
place_of (step.Leave i) = status_word i
place_of (step.Advance i) = epoch_word
place_of (step.Look i j) = status_word j
place_of (step.Eject i j) = status_word j
place_of (step.Load i root) = root_word root
place_of (step.Shield i place slot) = shield_word i place
place_of (step.Check i) = status_word i
place_of (step.Unshield i place) = shield_word i place
place_of (step.Read i slot word) = slot_word slot word
place_of (step.Write i slot word value) = slot_word slot word
place_of (step.Replace i root old new) = root_word root
place_of (step.Scan i j place) = shield_word j place
place_of (step.Give i) = epoch_word

-- what a seat knows after a step at whose word it found a number
abbrev pub known_after : Shape → Step → ℕ → Seat → Seat
known_after shape (step.Note i) found seat = after_note shape found seat
known_after shape (step.Pin i) found seat = after_pin seat
known_after shape (step.Leave i) found seat = after_leave seat
known_after shape (step.Advance i) found seat = seat
known_after shape (step.Look i j) found seat = after_look j (stance_from found) seat
known_after shape (step.Eject i j) found seat = after_pass j seat
known_after shape (step.Load i root) found seat = after_load found seat
known_after shape (step.Shield i place slot) found seat = after_shield place (shield.Set slot) seat
known_after shape (step.Check i) found seat = after_check record seat { status = stance_from found }
known_after shape (step.Unshield i place) found seat = after_shield place shield.Down seat
known_after shape (step.Read i slot word) found seat = seat
known_after shape (step.Write i slot word value) found seat = seat
known_after shape (step.Replace i root old new) found seat = if found == old then after_replace old new seat else seat
known_after shape (step.Scan i j place) found seat = after_scan j place (slot_from found) seat
known_after shape (step.Give i) found seat = after_give found seat

-- what a step answers, of what the seat knew and the number found
abbrev pub answer_found : Step → Seat → ℕ → Answer
answer_found (step.Note i) seat found = answer.Epoch found
answer_found (step.Pin i) seat found = answer.In seat.noted
answer_found (step.Leave i) seat found = answer.Out
answer_found (step.Advance i) seat found = if found == seat.noted then answer.Epoch (seat.noted + 1) else answer.Lost
answer_found (step.Look i j) seat found =
    if can_pass (scan_of seat).candidates seat.retired (stance_from found) then answer.Passed
    else answer.In (epoch_of (stance_from found))
answer_found (step.Eject i j) seat found = if found == 4 * found_epoch seat j + 1 then answer.Ejected else answer.Lost
answer_found (step.Load i root) seat found = answer.Slot found
answer_found (step.Shield i place slot) seat found = answer.Set
answer_found (step.Check i) seat found = check_answer (stance_from found)
answer_found (step.Unshield i place) seat found = answer.Cleared
answer_found (step.Read i slot word) seat found = answer.Word found
answer_found (step.Write i slot word value) seat found = answer.Written
answer_found (step.Replace i root old new) seat found = if found == old then answer.Replaced else answer.Other
answer_found (step.Scan i j place) seat found = found_under (slot_from found)
answer_found (step.Give i) seat found = answer.Given (count_by (λ mark. mark) (given_slots seat))
    (count_by is_retired (after_give found seat).retired)

abbrev pub act_on : {N A : Type 0} → (N → A → N) → Option A → N → N
act_on after None note = note
act_on after (Some act) note = after note act

-- Leave changes the note, and Replace where it found the old slot
abbrev pub note_after : {N A : Type 0} → (N → A → N) → Step → Option A → ℕ → N → N
note_after after (step.Leave i) act found note = act_on after act note
note_after after (step.Replace i root old new) act found note = if found == old then act_on after act note else note
note_after after _ act found note = note

module _ {N : Type 0} where
  abbrev pub held_after : {A : Type 0} → (N → A → N) → Shape → Step → Option A → ℕ → Held N → Held N
  held_after after shape step act found held = record held {
    known = known_after shape step found held.known;
    note = note_after after step act found held.note;
    past = past_after step (answer_found step held.known found) held.known held.past;
  }

  abbrev pub on_first : (Held N → Held N) → List (Held N) → List (Held N)
  on_first f [] = []
  on_first f (held ∷ others) = f held ∷ others

  -- what a view knows of the seat that it acts as
  abbrev pub number_in : List (Held N) → ℕ
  number_in [] = 0
  number_in (held ∷ others) = held.number

  abbrev pub known_in_view : List (Held N) → Seat
  known_in_view [] = nobody
  known_in_view (held ∷ others) = held.known

  abbrev pub past_in : List (Held N) → History
  past_in [] = no_history
  past_in (held ∷ others) = held.past

  -- its note, or a blank where there is none
  abbrev pub note_in : N → List (Held N) → N
  note_in blank [] = blank
  note_in blank (held ∷ others) = held.note

-- The seat is as it was known, but that it may have been ejected since.
abbrev pub IsAsKnown : Seat → Seat → Type 0
IsAsKnown known actual =
    (actual ≡ known)
    ⊎ ((epoch : ℕ) × (known.status ≡ stance.In epoch) × (actual ≡ record known { status = stance.Ejected epoch }))

-- A seat made this step of a sound core, with what it knew before and knows after.
pub record IsStepOf (shape : Shape) (s : Step) (given : Answer) (old new : Seat) : Type 0 where
  pub core : State
  pub shape_is : core.shape ≡ shape
  pub sound : IsSound core
  pub enabled : IsTrue (is_enabled core s)
  pub before : IsAsKnown old (seat_at core (seat_of s))
  pub answered : given ≡ answer_of core s
  pub later : IsAsKnown new (seat_at (after core s) (seat_of s))
