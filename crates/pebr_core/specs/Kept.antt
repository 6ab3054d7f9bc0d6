-- What every state that is reached keeps.
use Rattle.std.specs.Prelude.{◌≡◌, ◌≢◌, ℕ, ◌+◌, ◌≤◌, ◌<◌, ◌⊎◌, true, false, List, [], length, Some, None, count_by}
use Rattle.std.specs.Prelude.{sum_by, cond, ◌==◌, slice_index_or}
use Rattle.pebr_core.specs.State.{Scan, Seat, State, has, seat_at, root_at, shield_at, retired_at, found_at}
use Rattle.pebr_core.specs.State.{has_scanned, is_retired, slots_per_seat, slot_count}
use Rattle.pebr_core.specs.Steps.{is_above_tags, last_epoch}
use Rattle.pebr_core.specs.declared.kinds.Shape.{Shape}
use Rattle.pebr_core.specs.declared.kinds.Stance.{Stance}
use Rattle.pebr_core.specs.declared.kinds.Stance.TheVariants as stance
use Rattle.pebr_core.specs.declared.kinds.Retired.{Retired}
use Rattle.pebr_core.specs.declared.kinds.Retired.TheVariants as retire
use Rattle.pebr_core.specs.declared.kinds.ShieldAt.TheVariants as shield

-- A seat uses a slot where a shield of it is valid on the slot, or it is in and has seen the slot.
abbrev pub Uses : Seat → ℕ → Type 0
Uses seat slot =
    ((place : ℕ) × (shield_at seat place ≡ shield.Valid slot))
    ⊎ ((epoch : ℕ) × (seat.status ≡ stance.In epoch) × (has seat.seen slot ≡ true))

-- how many times a seat holds a slot, as fresh or as retired
abbrev pub times_held : ℕ → Seat → ℕ
times_held slot seat = cond (has seat.fresh slot) 1 0 + cond (is_retired (retired_at seat slot)) 1 0

-- how many times roots, fresh sets and retired sets hold a slot
abbrev pub times_in : State → ℕ → ℕ
times_in state slot = count_by (λ held. held == slot) state.roots + sum_by (times_held slot) state.seats

-- No used slot is in any fresh set. Roots, fresh sets and retired sets hold each slot exactly once.
pub record Safe (state : State) : Type 0 where
  pub unused : (i j slot : ℕ) → Uses (seat_at state j) slot → has (seat_at state i).fresh slot ≡ false
  pub once : (slot : ℕ) → slot < slot_count state.shape → times_in state slot ≡ 1

-- the epoch of a status that has one is at most this
abbrev pub IsPinnedUpTo : ℕ → Stance → Type 0
IsPinnedUpTo most stance.Out = Unit {0}
IsPinnedUpTo most (stance.In epoch) = epoch ≤ most
IsPinnedUpTo most (stance.Ejected epoch) = epoch ≤ most

abbrev pub IsTaggedUpTo : ℕ → Retired → Type 0
IsTaggedUpTo most retire.No = Unit {0}
IsTaggedUpTo most retire.Untagged = Unit {0}
IsTaggedUpTo most (retire.Tagged tag) = tag ≤ most

-- Every noted epoch, every epoch of a status and every tag is at most the epoch, which is at most 2 ^ 60.
pub record EpochsAreBounded (state : State) : Type 0 where
  pub epoch : state.epoch ≤ last_epoch
  pub noted : (i : ℕ) → (seat_at state i).noted ≤ state.epoch
  pub pinned : (i : ℕ) → IsPinnedUpTo state.epoch (seat_at state i).status
  pub tagged : (i slot : ℕ) → IsTaggedUpTo state.epoch (retired_at (seat_at state i) slot)

-- A seat that is in has seen no slot that is retired with a tag below its epoch.
abbrev pub HasSeenNoOlder : Seat → Seat → Type 0
HasSeenNoOlder owner reader =
    (slot tag epoch : ℕ) → reader.status ≡ stance.In epoch → retired_at owner slot ≡ retire.Tagged tag → tag < epoch
    → has reader.seen slot ≡ false

abbrev pub PinsSeeNoOlder : State → Type 0
PinsSeeNoOlder state = (i j : ℕ) → HasSeenNoOlder (seat_at state i) (seat_at state j)

-- A scanning seat is out. Its candidates are all its retired slots, each with a tag. Its kept slots are candidates. Its
-- looked and passed seats are other seats. Its scanned shields are shields of passed seats.
pub record IsScanOf (i : ℕ) (seat : Seat) (scan : Scan) : Type 0 where
  pub out : seat.status ≡ stance.Out
  pub all_retired : (slot : ℕ) → has scan.candidates slot ≡ is_retired (retired_at seat slot)
  pub tagged : (slot : ℕ) → retired_at seat slot ≢ retire.Untagged
  pub kept : (slot : ℕ) → has scan.kept slot ≡ true → has scan.candidates slot ≡ true
  pub looked_others : found_at scan i ≡ None
  pub passed_others : has scan.passed i ≡ false
  pub scanned_passed : (j place : ℕ) → has_scanned scan j place ≡ true → has scan.passed j ≡ true

abbrev pub ScansAreSound : State → Type 0
ScansAreSound state = (i : ℕ) (scan : Scan) → (seat_at state i).scan ≡ Some scan → IsScanOf i (seat_at state i) scan

-- no candidate of the scan is among the slots that the seat has seen
abbrev pub HasSeenNoCandidate : Scan → Seat → Type 0
HasSeenNoCandidate scan seat = (slot : ℕ) → has scan.candidates slot ≡ true → has seat.seen slot ≡ false

-- Each passed seat isn't in, or has seen no candidate.
abbrev pub PassedHasSeenNone : Scan → ℕ → Seat → Type 0
PassedHasSeenNone scan j seat = has scan.passed j ≡ true → (epoch : ℕ) → seat.status ≡ stance.In epoch
    → HasSeenNoCandidate scan seat

-- A valid shield of a passed seat on a candidate isn't scanned yet, or the candidate is kept.
abbrev pub ScannedIsKept : Scan → ℕ → Seat → Type 0
ScannedIsKept scan j seat =
    (place slot : ℕ) → has scan.passed j ≡ true → shield_at seat place ≡ shield.Valid slot
    → has scan.candidates slot ≡ true
    → has_scanned scan j place ≡ true → has scan.kept slot ≡ true

-- Where a seat was looked at with an epoch and isn't passed, that epoch is at most the greatest tag of a candidate.
-- Such a seat is in with that epoch, or it isn't in, or it has seen no candidate.
abbrev pub LookedIsOlder : List Retired → Scan → ℕ → Seat → Type 0
LookedIsOlder retired scan j seat =
    (found : ℕ) → found_at scan j ≡ Some found → has scan.passed j ≡ false
    → (is_above_tags scan.candidates retired found ≡ false)
    × ((epoch : ℕ) → seat.status ≡ stance.In epoch → (epoch ≡ found) ⊎ HasSeenNoCandidate scan seat)

-- one of these three, of each scanning seat with its scan and of each seat
abbrev pub OfEachScan : (Seat → Scan → ℕ → Seat → Type 0) → State → Type 0
OfEachScan P state = (i : ℕ) (scan : Scan) → (seat_at state i).scan ≡ Some scan → (j : ℕ)
    → P (seat_at state i) scan j (seat_at state j)

-- What every reachable state keeps, in seven parts.
pub record Kept (state : State) : Type 0 where
  pub safe : Safe state
  pub epochs : EpochsAreBounded state
  pub older : PinsSeeNoOlder state
  pub scans : ScansAreSound state
  pub passed : OfEachScan (λ owner scan j seat. PassedHasSeenNone scan j seat) state
  pub shielded : OfEachScan (λ owner scan j seat. ScannedIsKept scan j seat) state
  pub looked : OfEachScan (λ owner scan j seat. LookedIsOlder owner.retired scan j seat) state

-- how many slots a seat holds, fresh and retired together
abbrev pub held_count : Seat → ℕ
held_count seat = count_by (λ fresh. fresh) seat.fresh + count_by is_retired seat.retired

-- Each seat holds its number of slots.
abbrev pub Holding : State → Type 0
Holding state = (i : ℕ) → i < state.shape.seats → held_count (seat_at state i) ≡ slots_per_seat state.shape

-- The data is that of a core of its shape: there is one entry for each root, slot, seat and shield, and each number
-- that names a slot is below the number of slots.

pub record IsScanOfShape (shape : Shape) (scan : Scan) : Type 0 where
  pub candidates : length scan.candidates ≡ slot_count shape
  pub looked : length scan.looked ≡ shape.seats
  pub passed : length scan.passed ≡ shape.seats
  pub scanned : length scan.scanned ≡ shape.seats
  pub shields : (j : ℕ) → j < shape.seats → length (slice_index_or scan.scanned j []) ≡ shape.shields
  pub kept : length scan.kept ≡ slot_count shape

pub record IsSeatOfShape (shape : Shape) (seat : Seat) : Type 0 where
  pub seen : length seat.seen ≡ slot_count shape
  pub shields : length seat.shields ≡ shape.shields
  pub fresh : length seat.fresh ≡ slot_count shape
  pub retired : length seat.retired ≡ slot_count shape
  pub scan : (scan : Scan) → seat.scan ≡ Some scan → IsScanOfShape shape scan
  pub set : (place slot : ℕ) → shield_at seat place ≡ shield.Set slot → slot < slot_count shape
  pub valid : (place slot : ℕ) → shield_at seat place ≡ shield.Valid slot → slot < slot_count shape

pub record IsOfShape (state : State) : Type 0 where
  pub roots : length state.roots ≡ state.shape.roots
  pub slots : (root : ℕ) → root < state.shape.roots → root_at state root < slot_count state.shape
  pub words : length state.words ≡ slot_count state.shape
  pub width : (slot : ℕ) → slot < slot_count state.shape
      → length (slice_index_or state.words slot []) ≡ state.shape.width
  pub seats : length state.seats ≡ state.shape.seats
  pub each : (i : ℕ) → i < state.shape.seats → IsSeatOfShape state.shape (seat_at state i)

-- a core of its shape that keeps all of this
pub record IsSound (state : State) : Type 0 where
  pub shape : IsOfShape state
  pub kept : Kept state
  pub holding : Holding state

-- the limits of a shape
pub record IsWithinLimits (shape : Shape) : Type 0 where
  pub some_roots : 1 ≤ shape.roots
  pub roots : shape.roots ≤ 262144
  pub some_seats : 1 ≤ shape.seats
  pub seats : shape.seats ≤ 64
  pub some_shields : 1 ≤ shape.shields
  pub shields : shape.shields ≤ 8
  pub some_batch : 1 ≤ shape.batch
  pub batch : shape.batch ≤ 1024
  pub some_width : 1 ≤ shape.width
  pub width : shape.width ≤ 16
