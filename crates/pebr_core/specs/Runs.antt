-- Whole runs: what a list of steps leads through.
use Rattle.std.specs.Prelude.{◌≡◌, ℕ, suc, false, List, [], ◌∷◌, Option, Some, None, option_map, if◌then◌else◌}
use Rattle.pebr_core.specs.State.{State, has, seat_at, word_at}
use Rattle.pebr_core.specs.Steps.{is_enabled, after, answer_of}
use Rattle.pebr_core.specs.Kept.{Uses, IsSound}
use Rattle.pebr_core.specs.declared.kinds.Step.{Step}
use Rattle.pebr_core.specs.declared.kinds.Answer.{Answer}

-- the state after the steps
abbrev pub state_after : State → List Step → State
state_after state [] = state
state_after state (step ∷ steps) = state_after (after state step) steps

-- the answer to each step
abbrev pub answers_of : State → List Step → List Answer
answers_of state [] = []
answers_of state (step ∷ steps) = answer_of state step ∷ answers_of (after state step) steps

-- the place of the first step that isn't enabled, counted from 0
abbrev pub first_refused : State → List Step → Option ℕ
first_refused state [] = None
first_refused state (step ∷ steps) = if is_enabled state step
    then option_map (λ place. suc place) (first_refused (after state step) steps) else Some 0

-- No slot that a seat uses becomes fresh at any seat.
abbrev pub GivesNoUsed : State → State → Type 0
GivesNoUsed old new =
    (i j slot : ℕ) → Uses (seat_at old j) slot → has (seat_at new i).fresh slot ≡ false

-- No word of a slot that a seat uses is changed.
abbrev pub KeepsUsedWords : State → State → Type 0
KeepsUsedWords old new = (j slot word : ℕ) → Uses (seat_at old j) slot → word_at new slot word ≡ word_at old slot word

-- each state on the way is sound, no step makes a used slot fresh, and none changes a word of one
abbrev pub IsSafeRun : State → List Step → Type 0
IsSafeRun state [] = IsSound state
IsSafeRun state (step ∷ steps) =
    IsSound state × GivesNoUsed state (after state step) × KeepsUsedWords state (after state step)
    × IsSafeRun (after state step) steps
