-- The rule of the table: words and views show a core that is sound, and the protocol keeps.
use Rattle.std.specs.Prelude.{◌≡◌, ◌≢◌, ℕ, ◌+◌, ◌<◌, ◌≤◌, true, false, List, [], ◌∷◌, ◌++◌, map, length, ◌==◌, Option}
use Rattle.std.specs.Prelude.{Some, nat_lt, cond, slice_index, slice_index_or, slice_set}
use Rattle.std.specs.List.{range_with_len}
use mathlib.Core.Option.{some}
use lib.ListN.{get_elem?}
use Rattle.pebr_core.specs.declared.kinds.Shape.{Shape}
use Rattle.pebr_core.specs.declared.kinds.Stance.TheVariants as stance
use Rattle.pebr_core.specs.declared.kinds.Step.{Step}
use Rattle.pebr_core.specs.State.{State, Seat, has, seat_at, root_at, word_at, first_seat, slot_count}
use Rattle.pebr_core.specs.Steps.{is_shielded}
use Rattle.pebr_core.specs.Kept.{IsSound, IsSeatOfShape, Uses}
use Rattle.atomic_table.specs.Table as table
use Rattle.pebr_words.specs.declared.views.Held.{Held}
use Rattle.pebr_words.specs.Pasts.{Ejection, Read, History, no_history, past_after, shown_at, written_at}
use Rattle.pebr_words.specs.Shown.{Show}
use Rattle.pebr_words.specs.Making.{IsAsKnown, held_after, on_first, number_in, known_in_view, note_in, known_after}
use Rattle.pebr_words.specs.Making.{past_in}
use Rattle.pebr_words.specs.Making.{note_after, answer_found, IsStepOf}

-- the words of the slot in each root
abbrev pub contents : State → List (List ℕ)
contents core = map (λ slot. slice_index_or core.words slot []) core.roots

-- a list has it at some place
abbrev pub IsIn : {A : Type 0} → A → List A → Type 0
IsIn a list = (place : ℕ) × (get_elem? list place ≡ some a)

-- 1 where a number is a seat's
abbrev pub once_below : ℕ → ℕ → ℕ
once_below number seats = cond (nat_lt number seats) 1 0

-- the ejection of a seat that was in with this epoch, by another, for a slot with a tag from that epoch on
abbrev pub IsEjectionOf : State → ℕ → ℕ → Ejection → Type 0
IsEjectionOf core other epoch e =
    (e.other ≡ other) × (e.epoch ≡ epoch) × (e.by < core.shape.seats) × (e.by ≢ other) × (epoch ≤ e.tag)
    × (e.tag ≤ core.epoch)

-- What a seat remembers is true of the core.
pub record Recalls (core : State) (number : ℕ) (past : History) : Type 0 where
  -- a read of a slot that the seat still uses has that slot's word
  pub reads : (read : Read) → IsIn read past.reads → Uses (seat_at core number) read.slot
      → word_at core read.slot read.word ≡ read.value
  -- a word that it wrote is that of a slot that is still fresh at it
  pub written : (slot word value : ℕ) → written_at past.written slot word ≡ Some value
      → (has (seat_at core number).fresh slot ≡ true) × (word_at core slot word ≡ value)
  -- with one seat, a root has the slot that the seat was shown or left there, and no try is lost
  pub shown : core.shape.seats ≡ 1 → (root slot : ℕ) → shown_at past.shown root ≡ Some slot → root_at core root ≡ slot
  pub lost : core.shape.seats ≡ 1 → past.lost ≡ []

-- No seat has the slot fresh.
abbrev pub IsFreshNowhere : State → ℕ → Type 0
IsFreshNowhere core slot = (i : ℕ) → has (seat_at core i).fresh slot ≡ false

-- The content of each slot that no seat has fresh is whole.
abbrev pub AreWhole : (List ℕ → Type 0) → State → Type 0
AreWhole whole core = (slot : ℕ) → slot < slot_count core.shape → IsFreshNowhere core slot
    → whole (slice_index_or core.words slot [])

-- the words of a slot, so far as the seat read them, and so far as it wrote them
abbrev pub HasRead : History → ℕ → List ℕ → Type 0
HasRead past slot content = (read : Read) → IsIn read past.reads → read.slot ≡ slot
    → slice_index content read.word ≡ read.value

abbrev pub HasWritten : History → ℕ → List ℕ → Type 0
HasWritten past slot content = (word value : ℕ) → written_at past.written slot word ≡ Some value
    → slice_index content word ≡ value

-- the seat keeps a read of each word of the slot, and these are the content
abbrev pub HasReadWhole : Shape → History → ℕ → List ℕ → Type 0
HasReadWhole shape past slot content =
    (length content ≡ shape.width)
    × ((word : ℕ) → word < shape.width → (read : Read) × IsIn read past.reads × (read.slot ≡ slot) × (read.word ≡ word)
    × (read.value ≡ slice_index content word))

-- Each content that the seat has read in full under a valid shield is backed.
abbrev pub AreBacked : (List ℕ → Type 0) → Shape → Seat → History → Type 0
AreBacked backed shape known past =
    (slot : ℕ) (content : List ℕ) → is_shielded known slot ≡ true → HasReadWhole shape past slot content
    → backed content

-- What the rule tells a seat of what it remembers, whatever other seats do.
pub record IsSure (whole : List ℕ → Type 0) (shape : Shape) (known : Seat) (past : History) : Type 0 where
  -- under a valid shield, two reads of one word are equal
  pub same : (read other : Read) → IsIn read past.reads → IsIn other past.reads → read.slot ≡ other.slot
      → read.word ≡ other.word → is_shielded known read.slot ≡ true → read.value ≡ other.value
  -- under a valid shield, a content that was read in full is whole
  pub whole_is : (slot : ℕ) (content : List ℕ) → is_shielded known slot ≡ true → HasReadWhole shape past slot content
      → whole content
  -- with one seat, no try is lost
  pub alone : shape.seats ≡ 1 → past.lost ≡ []
  -- it has an entry for each slot and shield
  pub fits : IsSeatOfShape shape known

module _ {N : Type 0} where
  -- how often a view has a number
  abbrev pub times_held : ℕ → List (Held N) → ℕ
  times_held number [] = 0
  times_held number (held ∷ others) = cond (held.number == number) 1 0 + times_held number others

  -- a number of each view, added up
  abbrev pub total : (List (Held N) → ℕ) → List (List (Held N)) → ℕ
  total f [] = 0
  total f (view ∷ views) = f view + total f views

  -- a view's list has the ejection
  abbrev pub IsListed : Ejection → List (List (Held N)) → Type 0
  IsListed ejection views = (view : List (Held N)) × (held : Held N) × IsIn view views × IsIn held view
      × IsIn ejection held.past.ejections

  -- what a view has of a number is true of the core and the notes
  pub record Fits (core : State) (notes : List N) (held : Held N) : Type 0 where
    pub known : IsAsKnown held.known (seat_at core held.number)
    pub note : get_elem? notes held.number ≡ some held.note
    pub recalls : Recalls core held.number held.past

  -- A content is whole, and the notes back it.
  abbrev pub BackedWhole : (List ℕ → Type 0) → (List N → List ℕ → Type 0) → List N → List ℕ → Type 0
  BackedWhole whole backed notes content = whole content × backed notes content

  -- The rule. It holds between any two steps, whatever the seats do in turn.
  pub record Ruled (keeps : List (List ℕ) → List N → Type 0) (whole : List N → List ℕ → Type 0) (shape : Shape)
      (s : table.State (Unit {0}) (List (Held N))) : Type 0 where
    -- there is a core, and a note for each seat
    pub core : State
    pub notes : List N
    pub shape_is : core.shape ≡ shape
    -- the core is sound
    pub sound : IsSound core
    -- the words show it
    pub show : Show shape s.words core
    -- each number stands in one view, and no other number in any
    pub once : (number : ℕ) → total (times_held number) s.views ≡ once_below number shape.seats
    pub count : total length s.views ≡ shape.seats
    -- what views know, note and remember is true
    pub fits : (view : List (Held N)) (held : Held N) → IsIn view s.views → IsIn held view → Fits core notes held
    -- each seat that is ejected was ejected by another, in whose history it stands
    pub ejected : (other epoch : ℕ) → (seat_at core other).status ≡ stance.Ejected epoch
        → (e : Ejection) × IsEjectionOf core other epoch e × IsListed e s.views
    -- the protocol keeps
    pub many : length notes ≡ shape.seats
    pub kept : keeps (contents core) notes
    -- the content of each slot that no seat has fresh is whole, as the notes are
    pub whole_is : AreWhole (whole notes) core

  abbrev pub first_held : Shape → N → ℕ → Held N
  first_held shape note i = record { number = i; known = first_seat shape i; note = note; past = no_history }

  -- a view that wasn't used yet, of so many numbers from one on
  abbrev pub view_from : Shape → N → ℕ → ℕ → List (Held N)
  view_from shape note from count = map (first_held shape note) (range_with_len from count)

  -- the first view has all numbers
  abbrev pub first_view : Shape → N → List (Held N)
  first_view shape note = view_from shape note 0 shape.seats

  -- at a split the new seat gets the first number, and the other keeps the rest
  abbrev pub view_taken : List (Held N) → List (Held N)
  view_taken [] = []
  view_taken (held ∷ others) = held ∷ []

  abbrev pub view_left : List (Held N) → List (Held N)
  view_left [] = []
  view_left (held ∷ others) = others

  abbrev pub with_note : N → List (Held N) → List (Held N)
  with_note note view = on_first (λ held. record held { note = note }) view

  -- all numbers of both, with the merged note at the first and the empty one at the second
  abbrev pub united_view : (N → N → N) → N → List (Held N) → List (Held N) → List (Held N)
  united_view merged empty [] view = view
  united_view merged empty (held ∷ others) [] = held ∷ others
  united_view merged empty (held ∷ others) (held' ∷ others') =
      (record held { note = merged held.note held'.note }) ∷ others ++ (record held' { note = empty }) ∷ others'

  -- what a step tells: the seat's part is changed by the number found, this was the step of a core, and what the rule
  -- tells the seat
  abbrev pub Made : {A : Type 0} → (N → A → N) → (List ℕ → Type 0) → Shape → Step → Option A
      → table.Me (Unit {0}) (List (Held N)) → ℕ → table.Me (Unit {0}) (List (Held N)) → Type 0
  Made after whole shape step act m found m' =
      (m' ≡ (on_first (held_after after shape step act found) m.0, m.1))
      × IsStepOf shape step (answer_found step (known_in_view m.0) found) (known_in_view m.0) (known_in_view m'.0)
      × IsSure whole shape (known_in_view m'.0) (past_in m'.0)

  -- The new notes back all that the old ones back.
  abbrev pub StillBack : (List N → List ℕ → Type 0) → List N → List N → Type 0
  StillBack backed old new = (content : List ℕ) → backed old content → backed new content

  -- For all contents and notes that keep, in which this seat has its note, and which back what the seat has read in
  -- full under valid shields: the changed note in its place keeps too, and what was backed still is.
  abbrev pub CanNote : (List (List ℕ) → List N → Type 0) → (List N → List ℕ → Type 0) → Shape → Seat → History → ℕ → N
      → N → Type 0
  CanNote keeps backed shape known past number old new =
      (contents : List (List ℕ)) (notes : List N) → keeps contents notes → get_elem? notes number ≡ some old
      → AreBacked (backed notes) shape known past
      → keeps contents (slice_set notes number new) × StillBack backed notes (slice_set notes number new)

  -- The content under a seat's hold is replaced: for all contents and notes that keep, in which this root has a content
  -- as the seat read it and this seat has its note, each content as the seat wrote it is whole and backed, and keeps in
  -- its place with the changed note; and what was backed still is.
  abbrev pub CanReplace : (List (List ℕ) → List N → Type 0) → (List ℕ → Type 0) → (List N → List ℕ → Type 0) → Shape
      → History → ℕ → ℕ → ℕ → ℕ → N → N → Type 0
  CanReplace keeps whole backed shape past number root old new note changed =
      (contents : List (List ℕ)) (notes : List N) (from to : List ℕ) → keeps contents notes
      → get_elem? contents root ≡ some from → get_elem? notes number ≡ some note
      → length from ≡ shape.width → length to ≡ shape.width → HasRead past old from → HasWritten past new to
      → BackedWhole whole backed (slice_set notes number changed) to
      × keeps (slice_set contents root to) (slice_set notes number changed)
      × StillBack backed notes (slice_set notes number changed)

-- a proof picked this step and this act
abbrev pub IsPicked : {A : Type 0} → Shape → Step → Option A → Shape → Step → Option A → Type 0
IsPicked shape' step' act' shape step act = (shape' ≡ shape) × (step' ≡ step) × (act' ≡ act)

-- What a step tells of the seat that made it: what it knows and its note are changed by the number found, and this was
-- the step of a core.
pub record IsTold {N A : Type 0} (after_act : N → A → N) (whole : List ℕ → Type 0) (blank : N) (shape : Shape)
    (step : Step) (act : Option A) (found : ℕ) (me me' : table.Me (Unit {0}) (List (Held N))) : Type 0 where
  pub live : 0 < length me'.0
  pub carried : me'.1 ≡ me.1
  pub number : number_in me'.0 ≡ number_in me.0
  pub numbers : map (λ held. held.number) me'.0 ≡ map (λ held. held.number) me.0
  pub count : length me'.0 ≡ length me.0
  pub rest : view_left me'.0 ≡ view_left me.0
  pub known : known_in_view me'.0 ≡ known_after shape step found (known_in_view me.0)
  pub note : note_in blank me'.0 ≡ note_after after_act step act found (note_in blank me.0)
  pub past : past_in me'.0 ≡ past_after step (answer_found step (known_in_view me.0) found) (known_in_view me.0)
      (past_in me.0)
  pub made : IsStepOf shape step (answer_found step (known_in_view me.0) found) (known_in_view me.0)
      (known_in_view me'.0)
  pub sure : IsSure whole shape (known_in_view me'.0) (past_in me'.0)
