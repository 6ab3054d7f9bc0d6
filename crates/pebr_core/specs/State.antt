-- What a core holds at one moment, as plain data: an epoch, the roots, the slots' words and the seats.
-- A set of numbers below a bound is a list of marks, one for each number.
use Rattle.std.specs.Prelude.{ℕ, ◌+◌, ◌*◌, Bool, true, false, ◌&&◌, List, [], map, replicate, Option, None, unwrap_or}
use Rattle.std.specs.Prelude.{nat_lt, nat_le, ◌==◌, slice_index_or, Some}
use Rattle.std.specs.List.{range_with_len}
use Rattle.pebr_core.specs.declared.kinds.Shape.{Shape}
use Rattle.pebr_core.specs.declared.kinds.Stance.{Stance}
use Rattle.pebr_core.specs.declared.kinds.Stance.TheVariants as stance
use Rattle.pebr_core.specs.declared.kinds.Retired.{Retired}
use Rattle.pebr_core.specs.declared.kinds.Retired.TheVariants as retire
use Rattle.pebr_core.specs.declared.kinds.ShieldAt.{ShieldAt}
use Rattle.pebr_core.specs.declared.kinds.ShieldAt.TheVariants as shield

-- whether a number is in a set
abbrev pub has : List Bool → ℕ → Bool
has marks number = slice_index_or marks number false

-- A scan decides which of a seat's retired slots can be used again.
pub record Scan : Type 0 where
  -- the slots that it decides on
  pub candidates : List Bool
  -- for each seat, the epoch that it was last found in with
  pub looked : List (Option ℕ)
  -- the seats whose pins can't be in the way
  pub passed : List Bool
  -- for each seat, its shields that were read
  pub scanned : List (List Bool)
  -- the candidates that a shield was found on
  pub kept : List Bool

-- One seat.
pub record Seat : Type 0 where
  -- Out, In with an epoch, or Ejected with an epoch
  pub status : Stance
  -- the epoch that it noted last
  pub noted : ℕ
  -- the slots that it loaded since its pin
  pub seen : List Bool
  -- its shields
  pub shields : List ShieldAt
  -- the slots that it may write
  pub fresh : List Bool
  -- for each slot, whether the seat holds it as retired, and the tag
  pub retired : List Retired
  -- the scan that it is at
  pub scan : Option Scan

-- A core.
pub record State : Type 0 where
  pub shape : Shape
  pub epoch : ℕ
  -- the slot of each root
  pub roots : List ℕ
  -- the words of each slot
  pub words : List (List ℕ)
  pub seats : List Seat

-- how many slots belong to each seat
abbrev pub slots_per_seat : Shape → ℕ
slots_per_seat shape = shape.batch + shape.seats * shape.shields

-- how many slots there are
abbrev pub slot_count : Shape → ℕ
slot_count shape = shape.roots + shape.seats * slots_per_seat shape

-- what is read at a number that is no seat's
abbrev pub nobody : Seat
nobody = record { status = stance.Out; noted = 0; seen = []; shields = []; fresh = []; retired = []; scan = None }

abbrev pub no_scan : Scan
no_scan = record { candidates = []; looked = []; passed = []; scanned = []; kept = [] }

abbrev pub seat_at : State → ℕ → Seat
seat_at state i = slice_index_or state.seats i nobody

abbrev pub root_at : State → ℕ → ℕ
root_at state root = slice_index_or state.roots root 0

abbrev pub word_at : State → ℕ → ℕ → ℕ
word_at state slot word = slice_index_or (slice_index_or state.words slot []) word 0

abbrev pub shield_at : Seat → ℕ → ShieldAt
shield_at seat place = slice_index_or seat.shields place shield.Down

abbrev pub retired_at : Seat → ℕ → Retired
retired_at seat slot = slice_index_or seat.retired slot retire.No

-- the scan that a seat is at
abbrev pub scan_of : Seat → Scan
scan_of seat = unwrap_or seat.scan no_scan

-- the epoch with which a scan last found a seat in
abbrev pub found_at : Scan → ℕ → Option ℕ
found_at scan seat = slice_index_or scan.looked seat None

-- whether a scan read this shield of this seat
abbrev pub has_scanned : Scan → ℕ → ℕ → Bool
has_scanned scan seat place = has (slice_index_or scan.scanned seat []) place

-- whether it is retired, with or without a tag
abbrev pub is_retired : Retired → Bool
is_retired retire.No = false
is_retired retire.Untagged = true
is_retired (retire.Tagged tag) = true

abbrev pub is_out : Stance → Bool
is_out stance.Out = true
is_out (stance.In epoch) = false
is_out (stance.Ejected epoch) = false

-- the slot that a shield stands on
abbrev pub slot_under : ShieldAt → Option ℕ
slot_under shield.Down = None
slot_under (shield.Set slot) = Some slot
slot_under (shield.Valid slot) = Some slot

-- whether a shield is valid on a slot
abbrev pub is_valid_on : ℕ → ShieldAt → Bool
is_valid_on slot shield.Down = false
is_valid_on slot (shield.Set other) = false
is_valid_on slot (shield.Valid other) = other == slot

abbrev pub is_down : ShieldAt → Bool
is_down shield.Down = true
is_down (shield.Set slot) = false
is_down (shield.Valid slot) = false

-- At the start each seat has its own share of the slots fresh, the roots have the first slots, all words
-- are 0, and each seat is out.
abbrev pub is_share_of : Shape → ℕ → ℕ → Bool
is_share_of shape i slot = nat_le (shape.roots + i * slots_per_seat shape) slot && nat_lt slot
    (shape.roots + (i + 1) * slots_per_seat shape)

abbrev pub first_seat : Shape → ℕ → Seat
first_seat shape i = record {
  status = stance.Out;
  noted = 0;
  seen = replicate (slot_count shape) false;
  shields = replicate shape.shields shield.Down;
  fresh = map (is_share_of shape i) (range_with_len 0 (slot_count shape));
  retired = replicate (slot_count shape) retire.No;
  scan = None;
}

abbrev pub start_state : Shape → State
start_state shape = record {
  shape = shape;
  epoch = 0;
  roots = range_with_len 0 shape.roots;
  words = replicate (slot_count shape) (replicate shape.width 0);
  seats = map (first_seat shape) (range_with_len 0 shape.seats);
}
