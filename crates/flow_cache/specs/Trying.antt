-- How far a try is.
use Rattle.std.specs.Prelude.{◌≡◌, ℕ, ◌<◌, true, false, List, ◌++◌, ◌∷◌, length, Option, Some, MatchOption, IsTrue}
use Rattle.std.specs.List.{list_all}
use Rattle.flow_key.specs.Key.{set_number}
use Rattle.flow_parts.specs.declared.fragment.Fragment.{Fragment}
use Rattle.flow_parts.specs.declared.timeouts.Timeouts.{Timeouts}
use Rattle.cache_face.specs.declared.metered.How.{How}
use Rattle.cache_face.specs.Choice.{IsChoice}
use Rattle.cache_face.specs.Keeping.{IsSmall, entry_of}
use Rattle.cache_face.specs.Laws.{CanTake}
use Rattle.cache_face.specs.Notes.{Note, note_with}
use Rattle.pebr_core.specs.declared.kinds.ShieldAt.TheVariants as shield
use Rattle.pebr_core.specs.State.{Seat, has, shield_at, is_out, is_down}
use Rattle.pebr_words.specs.Pasts.{Lost, Read, History, shown_at, written_at}
use Rattle.pebr_roots.specs.Under.{slot_at}
use Rattle.flow_cache.specs.Places.{root_of}
use Rattle.flow_cache.specs.Reading.{words_read, entries_read, set_read, written_in}
use Rattle.flow_cache.specs.Shown.{IsTryOf}

-- Between its calls a seat is out, and has no shield up.
abbrev pub IsResting : Seat → Type 0
IsResting known = IsTrue (is_out known.status) × IsTrue (list_all is_down known.shields)

-- A fragment of this set, which a pass of this note can take.
pub record IsOwn (sets set : ℕ) (note : Note) (own : Fragment) : Type 0 where
  pub can : CanTake note own
  pub of_set : set_number own.key sets ≡ set
  pub small : IsSmall own

-- The slot under a shield is the one that the set's root of this place had when it was loaded, and since.
abbrev pub HasRoot : ℕ → ℕ → Seat → History → Type 0
HasRoot set place known past =
    (shown_at past.loads (root_of set place) ≡ Some (slot_at known place))
    × (shown_at past.shown (root_of set place) ≡ Some (slot_at known place))

-- The first roots of a set were loaded, so many: a shield is set on the slot of each.
abbrev pub AreLoaded : ℕ → ℕ → Seat → History → Type 0
AreLoaded set count known past =
    (place : ℕ) → place < count → (shield_at known place ≡ shield.Set (slot_at known place))
    × (has known.seen (slot_at known place) ≡ true) × HasRoot set place known past

-- The four roots of a set were loaded, and the shields on their slots are valid.
pub record AreProtected (set : ℕ) (known : Seat) (past : History) : Type 0 where
  pub each : (place : ℕ) → place < 4 → (shield_at known place ≡ shield.Valid (slot_at known place))
      × HasRoot set place known past
  pub last : set_read past.loads ≡ set

-- No try was lost since the pass entered.
abbrev pub IsUnlost : History → History → Type 0
IsUnlost old new = (new.lost ≡ old.lost) × (new.has_lost ≡ false)

-- The history is as it was, but for what the last step answered and how many there were.
abbrev pub HasOnlyStepped : History → History → Type 0
HasOnlyStepped old new = new ≡ record old { last = new.last; steps = new.steps }

-- The history is as it was, but for what the last step answered, how many there were, and what was read.
abbrev pub HasOnlyRead : History → History → Type 0
HasOnlyRead old new = new ≡ record old { last = new.last; steps = new.steps; reads = new.reads }

-- What was read before is read still.
abbrev pub HasMore : List Read → List Read → Type 0
HasMore old new = (slot word value : ℕ) → written_at old slot word ≡ Some value → written_at new slot word ≡ Some value

-- The ten words of a slot were read.
abbrev pub HasTen : List Read → ℕ → Type 0
HasTen reads slot = length (words_read reads slot) ≡ 10

-- The reads grew by the ten words of a slot, and these show the entry.
pub record HasReadTen (slot : ℕ) (entry : Option Fragment) (old new : List Read) : Type 0 where
  pub reads : List Read
  pub grown : new ≡ reads ++ old
  pub many : length reads ≡ 10
  pub ten : HasTen reads slot
  pub shows : entry_of (words_read reads slot) ≡ entry

-- The fragment was put in by the choice over the four entries read of the set.
pub record HasChosen (limits : Timeouts) (set : ℕ) (past : History) (own : Fragment) (how : How)
    (out : Option Fragment) : Type 0 where
  pub last : set_read past.loads ≡ set
  pub four : length (entries_read past set) ≡ 4
  pub chosen : MatchOption (written_in past.put) ⊥
      (λ wrote. IsChoice limits (entries_read past set) own how wrote.place out wrote.kept)

-- A try put the fragment in: the note has it with what was put out, and no try was lost.
abbrev pub HasPut : Timeouts → ℕ → Note → Note → History → History → Fragment → How → Option Fragment → Type 0
HasPut limits set note note' old new own how out =
    (note' ≡ note_with note own out) × (new.lost ≡ old.lost) × HasChosen limits set new own how out

-- One more try was lost, at a set.
abbrev pub HasLostTry : ℕ → History → History → Type 0
HasLostTry set old new = (try : Lost) × (new.lost ≡ try ∷ old.lost) × IsTryOf set try

-- A try put nothing in: the note and the fresh slots are as they were, and one more try was lost, at a set.
abbrev pub HasNotPut : ℕ → Note → Note → Seat → Seat → History → History → Type 0
HasNotPut set note note' known known' old new =
    (note' ≡ note) × (known'.fresh ≡ known.fresh) × HasLostTry set old new
