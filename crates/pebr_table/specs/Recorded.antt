-- The rule of words whose operations are recorded.
use Rattle.std.specs.Prelude.{◌≡◌, ℕ, List, [], ◌∷◌, ◌++◌, map, slice_index_or, slice_set}
use Rattle.atomic_table.specs.Table.{State, Me}
use Rattle.pebr_table.specs.declared.recorded.Recorded.{Recorded}
use Rattle.pebr_table.specs.Operations.{Op, IsTrueOf, words_after}

-- What happened: the seat at this place made an operation, a new seat came, a seat took in the one at this place.
pub data Event : Type 0 where
  made : ℕ → Op → Event
  came : Event
  went : ℕ → Event

-- what all that happened, the newest first, made of the first words
abbrev pub words_of : List ℕ → List Event → List ℕ
words_of first [] = first
words_of first (made place op ∷ log) = words_after op (words_of first log)
words_of first (came ∷ log) = words_of first log
words_of first (went place ∷ log) = words_of first log

-- the operations of each seat, the newest first
abbrev pub lists_of : List Event → List (List Op)
lists_of [] = [] ∷ []
lists_of (made place op ∷ log) = slice_set (lists_of log) place (op ∷ slice_index_or (lists_of log) place [])
lists_of (came ∷ log) = lists_of log ++ [] ∷ []
lists_of (went place ∷ log) = slice_set (lists_of log) place []

-- Each operation found what its word had then.
abbrev pub IsTrueLog : List ℕ → List Event → Type 0
IsTrueLog first [] = Unit {0}
IsTrueLog first (made place op ∷ log) = IsTrueOf op (words_of first log) × IsTrueLog first log
IsTrueLog first (came ∷ log) = IsTrueLog first log
IsTrueLog first (went place ∷ log) = IsTrueLog first log

module _ {V : Type 0} where
  -- as the layer above sees a table, and a seat
  abbrev pub bare_state : State (Unit {0}) (Recorded V) → State (Unit {0}) V
  bare_state s = record { words = s.words; homes = s.homes; views = map (λ v. v.view) s.views }

  abbrev pub bare : Me (Unit {0}) (Recorded V) → Me (Unit {0}) V
  bare me = (me.0.view, me.1)

  -- The rule, which holds between any two operations: that of the layer above, and the words are what the recorded
  -- operations of all seats made of the first words, in an order in which each found what its word had.
  pub record Records (holds : State (Unit {0}) V → Type 0) (s : State (Unit {0}) (Recorded V)) : Type 0 where
    pub above : holds (bare_state s)
    pub first : List ℕ
    pub log : List Event
    pub found : IsTrueLog first log
    pub words : s.words ≡ words_of first log
    pub lists : map (λ v. v.operations) s.views ≡ lists_of log
