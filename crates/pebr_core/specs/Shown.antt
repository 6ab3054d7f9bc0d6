-- The state that a core's data stand for.
use Rattle.std.specs.Prelude.{List, map, Some, None, if◌then◌else◌, All}
use Rattle.pebr_core.specs.declared.kinds.Shape.{Shape}
use Rattle.pebr_core.specs.declared.kinds.Retired.{Retired}
use Rattle.pebr_core.specs.declared.seats.ScanData.{ScanData}
use Rattle.pebr_core.specs.declared.seats.SeatData.{SeatData}
use Rattle.pebr_core.specs.declared.machine.Core.TheInside.{Inside}
use Rattle.pebr_core.specs.State.{Scan, Seat, State, is_retired}
use Rattle.pebr_core.specs.Kept.{IsScanOfShape, IsSound, IsWithinLimits}

-- the scan that the data would stand for if it were open; its candidates are the retired slots
abbrev pub scan_parts : List Retired → ScanData → Scan
scan_parts retired scan = record {
  candidates = map is_retired retired;
  looked = scan.looked;
  passed = scan.passed;
  scanned = scan.scanned;
  kept = scan.kept;
}

abbrev pub shown_seat : SeatData → Seat
shown_seat seat = record {
  status = seat.status;
  noted = seat.noted;
  seen = seat.seen;
  shields = seat.shields;
  fresh = seat.fresh;
  retired = seat.retired;
  scan = if seat.scan.is_open then Some (scan_parts seat.retired seat.scan) else None;
}

abbrev pub shown_state : Inside → State
shown_state core = record {
  shape = core.shape;
  epoch = core.epoch;
  roots = core.roots;
  words = core.words;
  seats = map shown_seat core.seats.items;
}

-- there is room for a scan of this shape
abbrev pub HasRoom : Shape → SeatData → Type 0
HasRoom shape seat = IsScanOfShape shape (scan_parts seat.retired seat.scan)

-- what the data of every core meet
pub record IsCore (core : Inside) : Type 0 where
  pub sound : IsSound (shown_state core)
  pub limits : IsWithinLimits core.shape
  pub room : All (HasRoom core.shape) core.seats.items
