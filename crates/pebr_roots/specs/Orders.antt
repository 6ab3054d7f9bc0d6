-- Which operations a call makes, in which order. Lists of operations have the newest first.
use Rattle.std.specs.Prelude.{◌≡◌, ◌≢◌, ℕ, ◌+◌, ◌*◌, ◌<◌, ◌≤◌, Bool, true, false, List, [], ◌∷◌, ◌++◌, length}
use Rattle.std.specs.Prelude.{if◌then◌else◌, nat_lt}
use Rattle.std.specs.List.{range_with_len}
use Rattle.pebr_table.specs.Operations.{Op, load, store, exchange}
use Rattle.pebr_core.specs.declared.kinds.Shape.{Shape}
use Rattle.pebr_core.specs.State.{Seat, scan_of}
use Rattle.pebr_core.specs.Steps.{can_pass, epoch_of, after_note, last_epoch}
use Rattle.pebr_words.specs.Places.{index, epoch_word, status_word, shield_word, root_word}
use Rattle.pebr_words.specs.Making.{stance_from}
use Rattle.pebr_words.specs.Pasts.{History}

-- So many operations at most were made.
pub record HasMade (most : ℕ) (old new : List Op) : Type 0 where
  pub made : List Op
  pub is : new ≡ made ++ old
  pub few : length made ≤ most

-- These are made one after another, for each number of a list.
abbrev pub AreMade : (ℕ → List Op → List Op → Type 0) → List ℕ → List Op → List Op → Type 0
AreMade makes [] old new = new ≡ old
AreMade makes (j ∷ js) old new = (mid : List Op) × makes j old mid × AreMade makes js mid new

-- The same for each number but one's own, for which nothing is done.
abbrev pub ButFor : ℕ → (ℕ → List Op → List Op → Type 0) → ℕ → List Op → List Op → Type 0
ButFor me makes j old new = (j ≡ me → new ≡ old) × (j ≢ me → makes j old new)

-- Enter: the epoch is noted, and announced.
abbrev pub entered_operations : Shape → ℕ → ℕ → List Op → List Op
entered_operations shape me noted old =
    store (index shape (status_word me)) (4 * noted + 1) ∷ load (index shape epoch_word) noted ∷ old

-- Load: the root is loaded, and a shield set on the slot that was found.
abbrev pub loaded_operations : Shape → ℕ → ℕ → ℕ → ℕ → List Op → List Op
loaded_operations shape me root place slot old =
    store (index shape (shield_word me place)) (slot + 1) ∷ load (index shape (root_word root)) slot ∷ old

-- Clear: each shield is taken down, in rising order.
abbrev pub HasClearedOne : Shape → ℕ → ℕ → List Op → List Op → Type 0
HasClearedOne shape me place old new = new ≡ store (index shape (shield_word me place)) 0 ∷ old

abbrev pub HasCleared : Shape → ℕ → List Op → List Op → Type 0
HasCleared shape me = AreMade (HasClearedOne shape me) (range_with_len 0 shape.shields)

-- A collection opens: the epoch is noted, and below the last one a compare and exchange tries to raise it by one, from
-- what Note found. It found this.
abbrev pub opened_operations : Shape → ℕ → ℕ → List Op → List Op
opened_operations shape noted found old =
    if nat_lt noted last_epoch
    then exchange (index shape epoch_word) noted (noted + 1) found ∷ load (index shape epoch_word) noted ∷ old
    else load (index shape epoch_word) noted ∷ old

-- whether a seat with this status word is passed by the scan of a seat that knows this: it is out, ejected, or in with
-- an epoch above each candidate's tag
abbrev pub is_passable : Seat → ℕ → Bool
is_passable known status = can_pass (scan_of known).candidates known.retired (stance_from status)

-- Another seat's status is loaded. Where it isn't passable, force ejects it, by a compare and exchange from the status
-- with the epoch found; without force it holds the scan up.
pub record HasPassed (shape : Shape) (known : Seat) (force : Bool) (other : ℕ) (result : Bool)
    (old new : List Op) : Type 0 where
  pub status : ℕ
  pub passed : is_passable known status ≡ true
      → (result ≡ true) × (new ≡ load (index shape (status_word other)) status ∷ old)
  pub ejected : is_passable known status ≡ false → force ≡ true
      → (result ≡ true) × (found : ℕ) × (new ≡ exchange (index shape (status_word other))
      (4 * epoch_of (stance_from status) + 1) (4 * epoch_of (stance_from status) + 2) found
      ∷ load (index shape (status_word other)) status ∷ old)
  pub held_up : is_passable known status ≡ false → force ≡ false
      → (result ≡ false) × (new ≡ load (index shape (status_word other)) status ∷ old)

-- Each other seat below a number is passed, in rising order.
abbrev pub ArePassedBelow : Shape → Seat → Bool → ℕ → ℕ → List Op → List Op → Type 0
ArePassedBelow shape known force me bound =
    AreMade (ButFor me (λ j. HasPassed shape known force j true)) (range_with_len 0 bound)

-- The shields of another seat are loaded, in rising order.
abbrev pub HasScannedOne : Shape → ℕ → ℕ → List Op → List Op → Type 0
HasScannedOne shape other place old new =
    (found : ℕ) × (new ≡ load (index shape (shield_word other place)) found ∷ old)

abbrev pub HasScannedSome : Shape → ℕ → ℕ → List Op → List Op → Type 0
HasScannedSome shape other count = AreMade (HasScannedOne shape other) (range_with_len 0 count)

-- The shields of each other seat below a number are loaded, in rising order.
abbrev pub AreScannedBelow : Shape → ℕ → ℕ → List Op → List Op → Type 0
AreScannedBelow shape me bound =
    AreMade (ButFor me (λ j. HasScannedSome shape j shape.shields)) (range_with_len 0 bound)

-- All other seats are passed.
abbrev pub HasPassedAll : Shape → Seat → Bool → ℕ → List Op → List Op → Type 0
HasPassedAll shape known force me = ArePassedBelow shape known force me shape.seats

-- The seats are passed up to one that holds the scan up.
pub record HasEndedAt (shape : Shape) (known : Seat) (force : Bool) (me : ℕ) (old new : List Op) : Type 0 where
  pub other : ℕ
  pub inside : other < shape.seats
  pub apart : other ≢ me
  pub mid : List Op
  pub before : ArePassedBelow shape known force me other old mid
  pub last : HasPassed shape known force other false mid new

-- A whole collection, of a seat that knew this: Note; Advance below the last epoch, from the epoch that Note gave; then
-- each other seat is passed; then the shields of each are loaded; then Give. Without force it ends at the first seat
-- that holds it up. 'ended' says whether it came to its end.
pub record HasMadeCollection (shape : Shape) (force : Bool) (me : ℕ) (known : Seat) (ended : Bool)
    (past past' : History)
    (old new : List Op) : Type 0 where
  -- the epoch that Note gave, and what Advance found
  pub noted : ℕ
  pub found : ℕ
  pub advances : past'.advances ≡ past.advances + (if nat_lt noted last_epoch then 1 else 0)
  pub whole : ended ≡ true → (passed : List Op) × (scanned : List Op) × (epoch : ℕ)
      × HasPassedAll shape (after_note shape noted known) force me (opened_operations shape noted found old) passed
      × AreScannedBelow shape me shape.seats passed scanned
      × (new ≡ load (index shape epoch_word) epoch ∷ scanned)
  pub held_up : ended ≡ false
      → HasEndedAt shape (after_note shape noted known) force me (opened_operations shape noted found old) new
