-- What the steps make of a seat's entry.
use Rattle.std.specs.Prelude.{ℕ, Bool, true, false, List, [], map, Option, Some, None, if◌then◌else◌, slice_set}
use Rattle.std.specs.Prelude.{slice_index_or}
use Rattle.pebr_core.specs.declared.kinds.Stance.{Stance}
use Rattle.pebr_core.specs.declared.kinds.Stance.TheVariants as stance
use Rattle.pebr_core.specs.declared.kinds.Retired.{Retired}
use Rattle.pebr_core.specs.declared.kinds.Retired.TheVariants as retire
use Rattle.pebr_core.specs.declared.kinds.ShieldAt.{ShieldAt}
use Rattle.pebr_core.specs.declared.seats.ScanData.{ScanData}
use Rattle.pebr_core.specs.declared.seats.SeatData.{SeatData}
use Rattle.pebr_core.specs.State.{is_retired}
use Rattle.pebr_core.specs.Marks.{given_marks}
use Rattle.pebr_core.specs.Steps.{empty_set_below, tag_with, can_pass, epoch_of, ejected_stance, checked_shields}
use Rattle.pebr_core.specs.Steps.{union_of, slots_without}

-- the room of a scan, emptied for the next
abbrev pub reopened_scan : ScanData → ScanData
reopened_scan scan = record {
  is_open = true;
  looked = map (λ _. None) scan.looked;
  passed = empty_set_below scan.passed;
  scanned = map empty_set_below scan.scanned;
  kept = empty_set_below scan.kept;
}

abbrev pub noted_entry : ℕ → SeatData → SeatData
noted_entry epoch seat =
    record seat { noted = epoch; retired = map (tag_with epoch) seat.retired; scan = reopened_scan seat.scan }

abbrev pub pinned_entry : SeatData → SeatData
pinned_entry seat =
    record seat {
      status = stance.In seat.noted;
      seen = empty_set_below seat.seen;
      scan = record seat.scan { is_open = false };
    }

abbrev pub left_entry : SeatData → SeatData
left_entry seat = record seat { status = stance.Out; seen = empty_set_below seat.seen }

-- the scan passes another seat
abbrev pub passing_entry : ℕ → SeatData → SeatData
passing_entry other seat = record seat { scan = record seat.scan { passed = slice_set seat.scan.passed other true } }

-- the scan found another seat in with an epoch
abbrev pub finding_entry : ℕ → ℕ → SeatData → SeatData
finding_entry other epoch seat =
    record seat { scan = record seat.scan { looked = slice_set seat.scan.looked other (Some epoch) } }

abbrev pub can_pass_entry : SeatData → Stance → Bool
can_pass_entry seat status = can_pass (map is_retired seat.retired) seat.retired status

abbrev pub looking_entry : ℕ → Stance → SeatData → SeatData
looking_entry other status seat =
    if can_pass_entry seat status then passing_entry other seat else finding_entry other (epoch_of status) seat

abbrev pub ejected_entry : ℕ → SeatData → SeatData
ejected_entry found seat = record seat { status = ejected_stance found seat.status }

abbrev pub loaded_entry : ℕ → SeatData → SeatData
loaded_entry slot seat = record seat { seen = slice_set seat.seen slot true }

abbrev pub shielded_entry : ℕ → ShieldAt → SeatData → SeatData
shielded_entry place at seat = record seat { shields = slice_set seat.shields place at }

abbrev pub checked_entry : SeatData → SeatData
checked_entry seat = record seat { shields = checked_shields seat.status seat.seen seat.shields }

abbrev pub replaced_entry : ℕ → ℕ → SeatData → SeatData
replaced_entry old new seat =
    record seat { fresh = slice_set seat.fresh new false; retired = slice_set seat.retired old retire.Untagged }

-- the kept candidates, with a slot that a shield was found on
abbrev pub kept_with : List Retired → List Bool → Option ℕ → List Bool
kept_with slots kept None = kept
kept_with slots kept (Some slot) = if is_retired (slice_index_or slots slot retire.No) then slice_set kept slot true
    else kept

abbrev pub scanned_entry : ℕ → ℕ → Option ℕ → SeatData → SeatData
scanned_entry other place slot seat = record seat {
  scan = record seat.scan {
    scanned = slice_set seat.scan.scanned other (slice_set (slice_index_or seat.scan.scanned other []) place true);
    kept = kept_with seat.retired seat.scan.kept slot;
  };
}

abbrev pub given_entry : ℕ → SeatData → SeatData
given_entry epoch seat = record seat {
  noted = epoch;
  fresh = union_of seat.fresh (given_marks seat.retired seat.scan.kept);
  retired = slots_without seat.retired (given_marks seat.retired seat.scan.kept);
  scan = record seat.scan { is_open = false };
}
