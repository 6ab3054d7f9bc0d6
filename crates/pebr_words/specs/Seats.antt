-- What clauses say of words and of seats at them.
use Rattle.std.specs.Prelude.{◌≡◌, ℕ, ◌<◌, ◌∷◌, [], ◌++◌, List, length, map, slice_index_or}
use Rattle.std.specs.List.{flat_map}
use Rattle.pebr_core.specs.declared.kinds.Shape.{Shape}
use Rattle.pebr_core.specs.State as core
use Rattle.pebr_core.specs.State.{slots_per_seat}
use Rattle.pebr_core.specs.Kept.{IsSeatOfShape}
use Rattle.pebr_table.specs.Operations.{Op}
use Rattle.pebr_table.specs.Tables as table
use Rattle.pebr_table.specs.Tables.{table_at, table_of, key_of, me_of}
use Rattle.pebr_words.specs.declared.words.Words.{Words}
use Rattle.pebr_words.specs.declared.words.Seat.{Seat}
use mathlib.Core.Option.{some}
use lib.ListN.{get_elem?}
use Rattle.pebr_words.specs.declared.views.Held.{Held}
use Rattle.pebr_words.specs.Ruled.{view_left, IsSure}
use Rattle.pebr_core.specs.declared.kinds.Step.{Step}
use Rattle.pebr_core.specs.declared.kinds.Answer.{Answer}
use Rattle.pebr_words.specs.Making.{IsStepOf, known_in_view, note_in, past_in, answer_found}
use Rattle.pebr_words.specs.Operating.{operation_of}
use Rattle.pebr_words.specs.Pasts.{History, Lost, Ejection, no_history, past_after}

module _ {P N A F : Type 0} where
  abbrev pub shape_of : Words P N A F → Shape
  shape_of words = words.shape

  abbrev pub fixed_of : Words P N A F → F
  fixed_of words = (key_of words.table).fixed

  -- what the seat knows of its part of the core
  abbrev pub known_of : {g : _} → Seat P N A F g → core.Seat
  known_of seat = known_in_view (me_of seat.inner).0

  abbrev pub number_of : {g : _} → Seat P N A F g → ℕ
  number_of seat = seat.number

  -- its note, where the protocol's first one is that of no seat
  abbrev pub note_of : {g : _} → N → Seat P N A F g → N
  note_of first seat = note_in first (me_of seat.inner).0

  -- the histories of the numbers that it stands for
  abbrev pub past_of : {g : _} → Seat P N A F g → History
  past_of seat = past_in (me_of seat.inner).0

  -- the operations on words that it made, the newest first
  abbrev pub operations_of : {g : _} → Seat P N A F g → List Op
  operations_of seat = table.operations_of seat.inner

  -- the numbers that it stands for, its own first
  abbrev pub numbers_of : {g : _} → Seat P N A F g → List ℕ
  numbers_of seat = map (λ held. held.number) (me_of seat.inner).0

  -- the tries that the seats lost whose numbers it stands for, and the ejections that they made
  abbrev pub lost_of : {g : _} → Seat P N A F g → List Lost
  lost_of seat = (past_of seat).lost ++ flat_map (λ held. held.past.lost) (view_left (me_of seat.inner).0)

  abbrev pub ejections_of : {g : _} → Seat P N A F g → List Ejection
  ejections_of seat = (past_of seat).ejections
      ++ flat_map (λ held. held.past.ejections) (view_left (me_of seat.inner).0)

  -- how many numbers it stands for
  abbrev pub count_of : {g : _} → Seat P N A F g → ℕ
  count_of seat = length (me_of seat.inner).0

  -- the notes of the numbers that it absorbed are empty
  abbrev pub IsUnited : {g : _} → N → Seat P N A F g → Type 0
  IsUnited empty seat = (place : ℕ) (held : Held N) → get_elem? (view_left (me_of seat.inner).0) place ≡ some held
      → held.note ≡ empty

  -- a seat of these words
  abbrev pub IsAt : {g : _} → Words P N A F → Seat P N A F g → Type 0
  IsAt words seat = (table_at seat.inner ≡ table_of words.table) × ((me_of seat.inner).1 ≡ [])
      × (0 < length (me_of seat.inner).0) × (seat.number < words.shape.seats)
      × (length seat.found.items ≡ words.shape.seats)
      × (seat.slots.room ≡ slots_per_seat words.shape) × IsSeatOfShape words.shape (known_of seat)

  -- A step was made: it is a seat of these words with the same numbers as before.
  abbrev pub IsStill : {g h : _} → Words P N A F → Seat P N A F g → Seat P N A F h → Type 0
  IsStill words old new =
      IsAt words new × (new.number ≡ old.number) × (numbers_of new ≡ numbers_of old) × (count_of new ≡ count_of old)
      × (view_left (me_of new.inner).0 ≡ view_left (me_of old.inner).0)

  -- a seat that was opened with this number
  abbrev pub IsOpenedSeat : {g : _} → Words P N A F → N → ℕ → Seat P N A F g → Type 0
  IsOpenedSeat words first i seat =
      IsAt words seat × (seat.number ≡ i) × (known_of seat ≡ core.first_seat words.shape i)
      × (note_of first seat ≡ first) × (past_of seat ≡ no_history) × (operations_of seat ≡ [])
      × (numbers_of seat ≡ i ∷ []) × (count_of seat ≡ 1)
      × ((empty : N) → IsUnited empty seat)

  -- one seat for each number
  abbrev pub AreOpened : {g : _} → Words P N A F → N → ℕ → List (Seat P N A F g) → Type 0
  AreOpened words first count seats = (length seats ≡ count)
      × ((i : ℕ) (d : _) → i < count → IsOpenedSeat words first i (slice_index_or seats i d))

  -- The seat made one step, this one, of a sound core, by one operation, which is that kind of step's own, and the
  -- answer is that of what the operation found. So its history went on, and this is what the rule tells it of what it
  -- remembers.
  pub record IsStep {g h : _} (whole : List ℕ → Type 0) (words : Words P N A F) (old : Seat P N A F g)
      (new : Seat P N A F h) (step : Step) (answer : Answer) : Type 0 where
    pub core : IsStepOf words.shape step answer (known_of old) (known_of new)
    pub past : past_of new ≡ past_after step answer (known_of old) (past_of old)
    pub made : (found : ℕ) × (answer ≡ answer_found step (known_of old) found)
        × (operations_of new ≡ operation_of words.shape step (known_of old) found ∷ operations_of old)
    pub sure : IsSure whole words.shape (known_of new) (past_of new)
