-- What clauses say of roots and of passes at them.
use Rattle.std.specs.Prelude.{◌≡◌, ◌<◌, ℕ, ◌∷◌, [], List, length, slice_index_or}
use Rattle.pebr_core.specs.declared.kinds.Shape.{Shape}
use Rattle.pebr_core.specs.declared.kinds.Step.{Step}
use Rattle.pebr_core.specs.declared.kinds.Answer.{Answer}
use Rattle.pebr_core.specs.State as core
use Rattle.pebr_core.specs.State.{slots_per_seat}
use Rattle.pebr_core.specs.Kept.{held_count}
use Rattle.pebr_table.specs.Operations.{Op}
use Rattle.pebr_words.specs.Pasts.{History, Lost, Ejection, no_history}
use Rattle.pebr_words.specs.Seats.{shape_of, fixed_of, known_of, number_of, numbers_of, note_of, past_of, lost_of}
use Rattle.pebr_words.specs.Seats.{ejections_of, operations_of, count_of, IsUnited, IsAt, IsStill, IsStep}
use Rattle.pebr_roots.specs.Under.{starts_of}
use Rattle.pebr_roots.specs.declared.pass.RootPass.{RootPass}
use Rattle.pebr_roots.specs.declared.pass.Roots.{Roots}

module _ {P N A F : Type 0} where
  abbrev pub shape_at : Roots P N A F → Shape
  shape_at roots = shape_of roots.words

  abbrev pub fixed_at : Roots P N A F → F
  fixed_at roots = fixed_of roots.words

  -- what the pass knows of its part of the core
  abbrev pub known_by_pass : {g : _} → RootPass P N A F g → core.Seat
  known_by_pass pass = known_of pass.seat

  -- the number that it acts as, and all numbers that it stands for
  abbrev pub number_by : {g : _} → RootPass P N A F g → ℕ
  number_by pass = number_of pass.seat

  abbrev pub numbers_by : {g : _} → RootPass P N A F g → List ℕ
  numbers_by pass = numbers_of pass.seat

  abbrev pub count_by_pass : {g : _} → RootPass P N A F g → ℕ
  count_by_pass pass = count_of pass.seat

  -- its note, where the protocol's first one is that of no seat
  abbrev pub note_by : {g : _} → N → RootPass P N A F g → N
  note_by first pass = note_of first pass.seat

  -- what its steps were
  abbrev pub past_by : {g : _} → RootPass P N A F g → History
  past_by pass = past_of pass.seat

  -- the operations that it made, the newest first
  abbrev pub operations_by : {g : _} → RootPass P N A F g → List Op
  operations_by pass = operations_of pass.seat

  -- the tries that it lost and the ejections that it made, of all numbers that it stands for
  abbrev pub lost_by : {g : _} → RootPass P N A F g → List Lost
  lost_by pass = lost_of pass.seat

  abbrev pub ejections_by : {g : _} → RootPass P N A F g → List Ejection
  ejections_by pass = ejections_of pass.seat

  -- the notes of the numbers that it absorbed are empty
  abbrev pub IsUnitedPass : {g : _} → N → RootPass P N A F g → Type 0
  IsUnitedPass empty pass = IsUnited empty pass.seat

  -- A pass of these roots. It has its number of slots, fresh and retired together, and where the words of each slot
  -- under its shields begin.
  pub record IsOf {g : _} (roots : Roots P N A F) (pass : RootPass P N A F g) : Type 0 where
    pub at : IsAt roots.words pass.seat
    pub held : held_count (known_of pass.seat) ≡ slots_per_seat (shape_of roots.words)
    pub starts : pass.starts ≡ starts_of (shape_of roots.words) pass.under

  -- Steps were made: it is a pass of these roots with the same numbers as before.
  pub record IsSame {g h : _} (roots : Roots P N A F) (old : RootPass P N A F g)
      (new : RootPass P N A F h) : Type 0 where
    pub of : IsOf roots new
    pub still : IsStill roots.words old.seat new.seat

  -- it made one step, this one, with this answer
  abbrev pub IsOneStep : {g h : _} → (List ℕ → Type 0) → Roots P N A F → RootPass P N A F g → RootPass P N A F h → Step
      → Answer → Type 0
  IsOneStep whole roots old new step answer = IsStep whole roots.words old.seat new.seat step answer

  -- a pass that was opened with this number
  pub record IsOpenedPass {g : _} (roots : Roots P N A F) (first : N) (i : ℕ) (pass : RootPass P N A F g) : Type 0 where
    pub of : IsOf roots pass
    pub number : number_of pass.seat ≡ i
    pub known : known_of pass.seat ≡ core.first_seat (shape_of roots.words) i
    pub note : note_of first pass.seat ≡ first
    pub past : past_of pass.seat ≡ no_history
    pub operations : operations_of pass.seat ≡ []
    pub numbers : numbers_of pass.seat ≡ i ∷ []
    pub count : count_of pass.seat ≡ 1
    pub united : (empty : N) → IsUnited empty pass.seat

  -- one pass for each number
  pub record AreOpenedPasses {g : _} (roots : Roots P N A F) (first : N)
      (passes : List (RootPass P N A F g)) : Type 0 where
    pub many : length passes ≡ (shape_of roots.words).seats
    pub each : (i : ℕ) (d : _) → i < (shape_of roots.words).seats
        → IsOpenedPass roots first i (slice_index_or passes i d)
