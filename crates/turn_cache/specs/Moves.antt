-- What each kind of step does to its seat.
use Rattle.std.specs.Prelude.{◌≡◌, ◌≢◌, ℕ, Bool, suc, ◌-◌, ◌*◌, ◌<◌, List, [], ◌∷◌, ◌++◌, Option, Some, false}
use Rattle.std.specs.Prelude.{replicate, length, ◌==◌, if◌then◌else◌, slice_set, slice_index, option_to_list}
use Rattle.flow_parts.specs.declared.fragment.Fragment.{Fragment}
use Rattle.atomic_table.specs.Table.{Me, Step}
use Rattle.cache_face.specs.Keeping.{IsWhole, IsSmall}
use Rattle.cache_face.specs.Laws.{CanTake}
use Rattle.cache_face.specs.Notes.{Note, note_with}
use Rattle.turn_cache.specs.Hands.{Hand, Turn, idle, reading, writing, number_of, written_as}
use Rattle.turn_cache.specs.Places.{turn_word, set_word}

abbrev pub Sat : Type 0
Sat = Me (Unit {0}) Hand

-- What a step is about: the number of seats and the set; whether a try is the last; the fragment that is
-- put in, if any, and the one handed out; the entry, its words as they were read, and its new ones.
pub record Move : Type 0 where
  pub seats : ℕ
  pub set : ℕ
  pub last : Bool
  pub taken : List Fragment
  pub out : Option Fragment
  pub place : ℕ
  pub old : List ℕ
  pub new : List ℕ

-- What was put in and what was handed out grow.
abbrev pub note_after : Note → List Fragment → Option Fragment → Note
note_after note taken out =
    record {
      seats = note.seats;
      taken = note.taken ++ taken;
      handed = note.handed ++ option_to_list out;
      seen = note.seen;
    }

-- The turn is taken: the seat reads the set.
abbrev pub hand_taking : ℕ → Hand → Hand
hand_taking set hand = record hand { turn = reading set; set = set; read = [] }

-- Another has the turn: a try is lost at the set, and where it is the last, the packets are metered and handed out.
abbrev pub hand_losing : Move → Hand → Hand
hand_losing move hand =
    record hand {
      lost = move.set ∷ hand.lost;
      note =
          if move.last then note_after hand.note move.taken move.out else hand.note;
    }

-- A try to take a turn tells whose it was: nobody's, or another seat's.
abbrev pub Tells : Move → Sat → ℕ → Sat → Type 0
Tells move m found m' =
    (m' ≡ (if found == 0 then hand_taking move.set m.0 else hand_losing move m.0, m.1))
    × (found ≢ 0 → (other : ℕ) × (found ≡ suc other) × (other < move.seats) × (other ≢ number_of m.0.numbers)
    × (move.seats ≢ 1))

-- A try to take the turn of a set is made at the turn word of that set.
abbrev pub Takes : Move → Step (Unit {0}) → Sat → ℕ → Sat → Type 0
Takes move st m found m' = (st.word ≡ turn_word move.set) × Tells move m found m'

-- To load a content word adds it to what was read. The ten words of an entry are whole.
abbrev pub more_read : List ℕ → Hand → Hand
more_read words hand = record hand { read = hand.read ++ words }

abbrev pub AreWhole : List ℕ → Type 0
AreWhole read = (before content : List ℕ) (place : ℕ) → read ≡ before ++ content → length before ≡ 10 * place
    → place < 4 → length content ≡ 10 → IsWhole content

abbrev pub Loads : Sat → ℕ → Sat → Type 0
Loads m found m' = (m' ≡ (more_read (found ∷ []) m.0, m.1)) × AreWhole (m.0.read ++ found ∷ [])

-- The first store: the entry is new from here on, and the note grows.
abbrev pub committed_hand : Move → Hand → Hand
committed_hand move hand = record hand {
  turn = writing move.set move.place move.new (slice_set move.old 5 (slice_index move.new 5));
  note = note_after hand.note move.taken move.out;
  written = written_as move.place move.new;
}

abbrev pub Commits : Move → Sat → Sat → Type 0
Commits move m m' = m' ≡ (committed_hand move m.0, m.1)

-- Only what the seat is at changes.
abbrev pub at_turn : Turn → Hand → Hand
at_turn turn hand = record hand { turn = turn }

-- Each further store.
abbrev pub written_turn : ℕ → ℕ → Turn → Turn
written_turn word value idle = idle
written_turn word value (reading set) = reading set
written_turn word value (writing set place new now) =
    writing set place new (slice_set now (word - set_word set (10 * place)) value)

abbrev pub Stores : Step (Unit {0}) → Sat → Sat → Type 0
Stores st m m' = m' ≡ (at_turn (written_turn st.word st.first m.0.turn) m.0, m.1)

-- The turn is given back.
abbrev pub Gives : Sat → Sat → Type 0
Gives m m' = m' ≡ (at_turn idle m.0, m.1)

-- A try to take the turn of a set. Where it is lost, and is the last, the own fragment is handed out.
abbrev pub move_of_try : ℕ → ℕ → Fragment → Bool → Move
move_of_try seats set own last = record {
  seats = seats;
  set = set;
  last = last;
  taken = own ∷ [];
  out = Some own;
  place = 0;
  old = [];
  new = [];
}

-- An entry of a set is written.
abbrev pub writes_to : ℕ → ℕ → Fragment → Option Fragment → List ℕ → List ℕ → Move
writes_to set place own out old new =
    record { seats = 0; set = set; last = false; taken = own ∷ []; out = out; place = place; old = old; new = new }

-- A pass of this note can take the fragment.
pub record IsOwn (note : Note) (own : Fragment) : Type 0 where
  pub can : CanTake note own
  pub small : IsSmall own

-- The turn was taken, after so many lost tries.
abbrev pub after_tries : ℕ → ℕ → Hand → Hand
after_tries set tries hand = hand_taking set (record hand { lost = replicate tries set ++ hand.lost })

-- Three tries were lost: the fragment is handed out.
abbrev pub passed_by : ℕ → Fragment → Hand → Hand
passed_by set own hand =
    record hand { lost = replicate 3 set ++ hand.lost; note = note_with hand.note own (Some own) }

-- A fragment was put into the set whose turn the seat had, by the choice over the entries read.
abbrev pub filled_hand : List ℕ → ℕ → List ℕ → Fragment → Option Fragment → Hand → Hand
filled_hand words place new own out hand = record hand {
  read = words;
  turn = idle;
  note = note_with hand.note own out;
  written = written_as place new;
}
