-- How far a collection is: what it makes of the seat and of what the seat remembers.
use Rattle.std.specs.Prelude.{◌≡◌, ◌≢◌, ℕ, ◌+◌, ◌-◌, ◌*◌, ◌<◌, ◌≤◌, Bool, true, false, Some, if◌then◌else◌, nat_lt}
use Rattle.std.specs.Prelude.{List, length}
use Rattle.pebr_core.specs.State.{Seat, has, scan_of, found_at, has_scanned}
use Rattle.pebr_core.specs.Steps.{is_scanning, last_epoch}
use Rattle.pebr_core.specs.Frames.{kept_count, fresh_count, retired_count}
use Rattle.pebr_core.specs.declared.kinds.Shape.{Shape}
use Rattle.pebr_table.specs.Operations.{Op}
use Rattle.pebr_words.specs.Pasts.{History}

-- A seat was found in and isn't passed.
abbrev pub IsHeldUp : Seat → Type 0
IsHeldUp known = (other : ℕ) × (epoch : ℕ) × (found_at (scan_of known) other ≡ Some epoch)
    × (has (scan_of known).passed other ≡ false)

-- The seat has made so many operations more as its history has steps more.
abbrev pub IsCounted : History → History → List Op → List Op → Type 0
IsCounted old new before after = new.steps + length before ≡ old.steps + length after

-- The scan is open, with its candidates, and nothing but it has changed.
pub record IsScanning (old new : Seat) : Type 0 where
  pub scanning : is_scanning new ≡ true
  pub candidates : (scan_of new).candidates ≡ (scan_of old).candidates
  pub rest : new ≡ record old { scan = new.scan }

-- The scan has opened: Note, and Advance unless the epoch that it found is the last.
pub record HasOpened (old new : History) (noted : ℕ) : Type 0 where
  pub rest : new ≡ record old { last = new.last; steps = new.steps; notes = old.notes + 1; advances = new.advances }
  pub few : new.steps ≤ old.steps + 2
  pub advances : new.advances ≡ old.advances + (if nat_lt noted last_epoch then 1 else 0)

-- Looks, ejections and scans were made, at most so many.
pub record HasLooked (old new : History) (most : ℕ) : Type 0 where
  pub rest : new ≡ record old { last = new.last; steps = new.steps; ejections = new.ejections }
  pub few : new.steps ≤ old.steps + most

-- Another seat was looked at, or it is the seat itself.
pub record IsPassing (me other : ℕ) (result : Bool) (old new : Seat) : Type 0 where
  pub scan : IsScanning old new
  pub passed : result ≡ true → other ≢ me → has (scan_of new).passed other ≡ true
  pub others : (j : ℕ) → j ≢ other → has (scan_of new).passed j ≡ has (scan_of old).passed j
  pub unread : (j place : ℕ) → has_scanned (scan_of new) j place ≡ has_scanned (scan_of old) j place
  pub kept : kept_count new ≡ kept_count old
  pub held_up : result ≡ false → IsHeldUp new

-- All others were looked at, or one holds the scan up.
pub record ArePassing (me seats : ℕ) (result : Bool) (old new : Seat) : Type 0 where
  pub scan : IsScanning old new
  pub passed : result ≡ true → (j : ℕ) → j < seats → j ≢ me → has (scan_of new).passed j ≡ true
  pub unread : (j place : ℕ) → has_scanned (scan_of new) j place ≡ has_scanned (scan_of old) j place
  pub kept : kept_count new ≡ kept_count old
  pub held_up : result ≡ false → IsHeldUp new

-- The first shields of another seat were read, so many.
pub record IsReading (other shields : ℕ) (old new : Seat) : Type 0 where
  pub scan : IsScanning old new
  pub passed : (j : ℕ) → has (scan_of new).passed j ≡ has (scan_of old).passed j
  pub read : (place : ℕ) → place < shields → has_scanned (scan_of new) other place ≡ true
  pub unread : (place : ℕ) → shields ≤ place
      → has_scanned (scan_of new) other place ≡ has_scanned (scan_of old) other place
  pub others : (j place : ℕ) → j ≢ other → has_scanned (scan_of new) j place ≡ has_scanned (scan_of old) j place
  pub kept : kept_count new ≤ kept_count old + shields

-- The shields of the first seats were read, but for those of the seat itself.
pub record AreReading (me seats shields : ℕ) (old new : Seat) : Type 0 where
  pub scan : IsScanning old new
  pub passed : (j : ℕ) → has (scan_of new).passed j ≡ has (scan_of old).passed j
  pub read : (j place : ℕ) → j < seats → j ≢ me → place < shields → has_scanned (scan_of new) j place ≡ true
  pub unread : (j place : ℕ) → seats ≤ j → has_scanned (scan_of new) j place ≡ has_scanned (scan_of old) j place

-- how many of the first numbers are other seats'
abbrev pub others_below : ℕ → ℕ → ℕ
others_below me bound = if nat_lt me bound then bound - 1 else bound

-- What a collection makes of the seat: slots are given, the others are left, and no more are left than the other seats
-- have shields, or a seat holds the scan up.
pub record IsCollected (shape : Shape) (force : Bool) (given left : ℕ) (old new : Seat) : Type 0 where
  pub rest : new ≡ record old { noted = new.noted; fresh = new.fresh; retired = new.retired; scan = new.scan }
  pub left_is : left ≡ retired_count new
  pub all : given + left ≡ retired_count old
  pub fresh : fresh_count new ≡ fresh_count old + given
  pub few : is_scanning new ≡ false → left ≤ (shape.seats - 1) * shape.shields
  pub held_up : is_scanning new ≡ true → (force ≡ false) × (given ≡ 0) × IsHeldUp new

-- What a collection adds to what the seat remembers: a Note, a Give unless a seat holds the scan up, and without force
-- no ejection. Which operations it makes, and so whether an Advance, `Orders` says.
pub record HasCollected (shape : Shape) (force : Bool) (old new : History) (known : Seat) : Type 0 where
  pub rest : new ≡ record old {
    last = new.last;
    steps = new.steps;
    notes = old.notes + 1;
    advances =
        new.advances;
    gives = new.gives;
    ejections = new.ejections;
  }
  pub gives : new.gives ≡ old.gives + (if is_scanning known then 0 else 1)
  pub few : new.steps ≤ old.steps + (2 * (shape.seats - 1) + (shape.seats - 1) * shape.shields + 4)
  pub mild : force ≡ false → new.ejections ≡ old.ejections
