-- The steps of the seats. For each kind of step three things: where it is enabled, what it changes, and what it
-- answers. What a row doesn't name stays. This scheme of pins, ejection and shields is this repository's own, after
-- Kang and Jung, 'A marriage of pointer- and epoch-based reclamation' (PLDI 2020).
use Rattle.std.specs.Prelude.{ℕ, ◌+◌, ◌^◌, Bool, true, false, not, ◌&&◌, ◌||◌, List, [], ◌∷◌, map, replicate, count_by}
use Rattle.std.specs.Prelude.{Option, Some, None, is_some, unwrap_or, if◌then◌else◌, ◌==◌, nat_lt, slice_set}
use Rattle.std.specs.Prelude.{slice_index_or}
use Rattle.std.specs.List.{range_with_len, list_all, list_any}
use Rattle.pebr_core.specs.State.{Scan, Seat, State, has, seat_at, root_at, word_at, shield_at, scan_of, found_at}
use Rattle.pebr_core.specs.State.{has_scanned, is_retired, is_out, is_down, is_valid_on, slot_under, slot_count}
use Rattle.pebr_core.specs.declared.kinds.Shape.{Shape}
use Rattle.pebr_core.specs.declared.kinds.Stance.{Stance}
use Rattle.pebr_core.specs.declared.kinds.Stance.TheVariants as stance
use Rattle.pebr_core.specs.declared.kinds.Retired.{Retired}
use Rattle.pebr_core.specs.declared.kinds.Retired.TheVariants as retire
use Rattle.pebr_core.specs.declared.kinds.ShieldAt.{ShieldAt}
use Rattle.pebr_core.specs.declared.kinds.ShieldAt.TheVariants as shield
use Rattle.pebr_core.specs.declared.kinds.Step.{Step}
use Rattle.pebr_core.specs.declared.kinds.Step.TheVariants as step
use Rattle.pebr_core.specs.declared.kinds.Answer.{Answer}
use Rattle.pebr_core.specs.declared.kinds.Answer.TheVariants as answer

-- the last epoch: no step raises the epoch beyond it
abbrev pub last_epoch : ℕ
last_epoch = 2 ^ 60

-- the empty set, below the same bound
abbrev pub empty_set_below : List Bool → List Bool
empty_set_below marks = map (λ _. false) marks

-- a retired slot without a tag gets this one
abbrev pub tag_with : ℕ → Retired → Retired
tag_with epoch retire.No = retire.No
tag_with epoch retire.Untagged = retire.Tagged epoch
tag_with epoch (retire.Tagged tag) = retire.Tagged tag

-- a scan with all retired slots as candidates, which has looked at nobody
abbrev pub new_scan : Shape → List Retired → Scan
new_scan shape slots = record {
  candidates = map is_retired slots;
  looked = replicate shape.seats None;
  passed = replicate shape.seats false;
  scanned = replicate shape.seats (replicate shape.shields false);
  kept = replicate (slot_count shape) false;
}

-- the epoch is above the tag of each candidate
abbrev pub is_above_tags : List Bool → List Retired → ℕ → Bool
is_above_tags (true ∷ candidates) (retire.Tagged tag ∷ slots) epoch =
    nat_lt tag epoch && is_above_tags candidates slots epoch
is_above_tags (true ∷ candidates) (retire.Untagged ∷ slots) epoch = is_above_tags candidates slots epoch
is_above_tags (true ∷ candidates) (retire.No ∷ slots) epoch = is_above_tags candidates slots epoch
is_above_tags (false ∷ candidates) (slot ∷ slots) epoch = is_above_tags candidates slots epoch
is_above_tags (candidate ∷ candidates) [] epoch = true
is_above_tags [] slots epoch = true

-- A seat with this status can't use a candidate by its pin: it is out or ejected, or in with an epoch above every
-- candidate's tag.
abbrev pub can_pass : List Bool → List Retired → Stance → Bool
can_pass candidates slots stance.Out = true
can_pass candidates slots (stance.Ejected epoch) = true
can_pass candidates slots (stance.In epoch) = is_above_tags candidates slots epoch

-- the epoch of a status, 0 for Out
abbrev pub epoch_of : Stance → ℕ
epoch_of stance.Out = 0
epoch_of (stance.In epoch) = epoch
epoch_of (stance.Ejected epoch) = epoch

abbrev pub is_in_at : ℕ → Stance → Bool
is_in_at epoch stance.Out = false
is_in_at epoch (stance.Ejected other) = false
is_in_at epoch (stance.In other) = other == epoch

-- the status after an attempt to eject a seat that was found in with this epoch
abbrev pub ejected_stance : ℕ → Stance → Stance
ejected_stance epoch status = if is_in_at epoch status then stance.Ejected epoch else status

-- a change of one seat
abbrev pub with_seat : State → ℕ → Seat → State
with_seat state i seat = record state { seats = slice_set state.seats i seat }

-- a change of the scan that a seat is at
abbrev pub with_scan : Seat → Scan → Seat
with_scan seat scan = record seat { scan = Some scan }

abbrev pub with_passed : Scan → ℕ → Scan
with_passed scan other = record scan { passed = slice_set scan.passed other true }

abbrev pub with_look : Scan → ℕ → ℕ → Scan
with_look scan other epoch = record scan { looked = slice_set scan.looked other (Some epoch) }

-- a scan that read a shield of a seat
abbrev pub with_scanned : Scan → ℕ → ℕ → Scan
with_scanned scan other place =
    record scan { scanned = slice_set scan.scanned other (slice_set (slice_index_or scan.scanned other []) place true) }

-- a scan that keeps a slot that a shield was found on, where it is a candidate
abbrev pub with_kept : Scan → Option ℕ → Scan
with_kept scan None = scan
with_kept scan (Some slot) = if has scan.candidates slot then record scan { kept = slice_set scan.kept slot true }
    else scan

-- a shield that is set on a slot of this set becomes valid
abbrev pub validated_shield : List Bool → ShieldAt → ShieldAt
validated_shield seen shield.Down = shield.Down
validated_shield seen (shield.Set slot) = if has seen slot then shield.Valid slot else shield.Set slot
validated_shield seen (shield.Valid slot) = shield.Valid slot

-- the shields of a seat with this status after a check
abbrev pub checked_shields : Stance → List Bool → List ShieldAt → List ShieldAt
checked_shields stance.Out seen shields = shields
checked_shields (stance.In epoch) seen shields = map (validated_shield seen) shields
checked_shields (stance.Ejected epoch) seen shields = shields

-- the numbers of the first set that aren't in the second
abbrev pub without : List Bool → List Bool → List Bool
without [] others = []
without (mark ∷ marks) [] = mark ∷ marks
without (mark ∷ marks) (other ∷ others) = (mark && not other) ∷ without marks others

-- the numbers of either set
abbrev pub union_of : List Bool → List Bool → List Bool
union_of [] others = others
union_of (mark ∷ marks) [] = mark ∷ marks
union_of (mark ∷ marks) (other ∷ others) = (mark || other) ∷ union_of marks others

-- the retired slots without those of a set
abbrev pub slots_without : List Retired → List Bool → List Retired
slots_without [] marks = []
slots_without (slot ∷ slots) [] = slot ∷ slots
slots_without (slot ∷ slots) (mark ∷ marks) = (if mark then retire.No else slot) ∷ slots_without slots marks

-- each number below a bound passes
abbrev pub each_below : ℕ → (ℕ → Bool) → Bool
each_below bound test = list_all test (range_with_len 0 bound)

-- the scan of a seat has passed each other seat and read all its shields
abbrev pub is_complete : Shape → ℕ → Scan → Bool
is_complete shape i scan =
    each_below shape.seats
    (λ j. (j == i) || (has scan.passed j && each_below shape.shields (λ place. has_scanned scan j place)))

-- what the steps make of one seat

abbrev pub after_note : Shape → ℕ → Seat → Seat
after_note shape epoch seat = record seat {
  noted = epoch;
  retired = map (tag_with epoch) seat.retired;
  scan = Some (new_scan shape (map (tag_with epoch) seat.retired));
}

abbrev pub after_pin : Seat → Seat
after_pin seat = record seat { status = stance.In seat.noted; seen = empty_set_below seat.seen; scan = None }

abbrev pub after_leave : Seat → Seat
after_leave seat = record seat { status = stance.Out; seen = empty_set_below seat.seen }

abbrev pub after_look : ℕ → Stance → Seat → Seat
after_look other status seat =
    if can_pass (scan_of seat).candidates seat.retired status
    then with_scan seat (with_passed (scan_of seat) other)
    else with_scan seat (with_look (scan_of seat) other (epoch_of status))

abbrev pub after_pass : ℕ → Seat → Seat
after_pass other seat = with_scan seat (with_passed (scan_of seat) other)

abbrev pub after_load : ℕ → Seat → Seat
after_load slot seat = record seat { seen = slice_set seat.seen slot true }

abbrev pub after_shield : ℕ → ShieldAt → Seat → Seat
after_shield place at seat = record seat { shields = slice_set seat.shields place at }

abbrev pub after_check : Seat → Seat
after_check seat = record seat { shields = checked_shields seat.status seat.seen seat.shields }

abbrev pub after_replace : ℕ → ℕ → Seat → Seat
after_replace old new seat =
    record seat { fresh = slice_set seat.fresh new false; retired = slice_set seat.retired old retire.Untagged }

abbrev pub after_scan : ℕ → ℕ → Option ℕ → Seat → Seat
after_scan other place slot seat = with_scan seat (with_kept (with_scanned (scan_of seat) other place) slot)

-- the candidates that aren't kept
abbrev pub given_slots : Seat → List Bool
given_slots seat = without (scan_of seat).candidates (scan_of seat).kept

abbrev pub after_give : ℕ → Seat → Seat
after_give epoch seat = record seat {
  noted = epoch;
  fresh = union_of seat.fresh (given_slots seat);
  retired = slots_without seat.retired (given_slots seat);
  scan = None;
}

-- the epoch with which the scan of a seat found another seat in
abbrev pub found_epoch : Seat → ℕ → ℕ
found_epoch seat other = unwrap_or (found_at (scan_of seat) other) 0

abbrev pub is_scanning : Seat → Bool
is_scanning seat = is_some seat.scan

abbrev pub is_seat : State → ℕ → Bool
is_seat state i = nat_lt i state.shape.seats

abbrev pub is_root : State → ℕ → Bool
is_root state root = nat_lt root state.shape.roots

abbrev pub is_place : State → ℕ → Bool
is_place state place = nat_lt place state.shape.shields

abbrev pub is_slot : State → ℕ → Bool
is_slot state slot = nat_lt slot (slot_count state.shape)

abbrev pub is_word : State → ℕ → Bool
is_word state word = nat_lt word state.shape.width

-- a shield of the seat is valid on the slot
abbrev pub is_shielded : Seat → ℕ → Bool
is_shielded seat slot = list_any (is_valid_on slot) seat.shields

-- where a step is enabled
abbrev pub is_enabled : State → Step → Bool
is_enabled state (step.Note i) = is_seat state i && is_out (seat_at state i).status
is_enabled state (step.Pin i) = is_seat state i && is_out (seat_at state i).status
is_enabled state (step.Leave i) = is_seat state i && not (is_out (seat_at state i).status)
is_enabled state (step.Advance i) = is_seat state i && nat_lt (seat_at state i).noted last_epoch
is_enabled state (step.Look i j) =
    is_seat state i && is_seat state j && is_scanning (seat_at state i)
    && not (j == i) && not (has (scan_of (seat_at state i)).passed j)
is_enabled state (step.Eject i j) =
    is_seat state i && is_seat state j && is_scanning (seat_at state i)
    && is_some (found_at (scan_of (seat_at state i)) j) && not (has (scan_of (seat_at state i)).passed j)
is_enabled state (step.Load i root) = is_seat state i && is_root state root && not (is_out (seat_at state i).status)
is_enabled state (step.Shield i place slot) =
    is_seat state i && is_place state place && is_slot state slot && not (is_out (seat_at state i).status) && has
    (seat_at state i).seen slot
is_enabled state (step.Check i) = is_seat state i && not (is_out (seat_at state i).status)
is_enabled state (step.Unshield i place) = is_seat state i && is_place state place
is_enabled state (step.Read i slot word) =
    is_seat state i && is_slot state slot && is_word state word && is_shielded (seat_at state i) slot
is_enabled state (step.Write i slot word value) =
    is_seat state i && is_slot state slot && is_word state word && has (seat_at state i).fresh slot
is_enabled state (step.Replace i root old new) =
    is_seat state i && is_root state root && is_slot state old && is_slot state new
    && not (is_out (seat_at state i).status) && is_shielded (seat_at state i) old && has (seat_at state i).fresh new
is_enabled state (step.Scan i j place) =
    is_seat state i && is_seat state j && is_place state place && is_scanning (seat_at state i)
    && has (scan_of (seat_at state i)).passed j && not (has_scanned (scan_of (seat_at state i)) j place)
is_enabled state (step.Give i) =
    is_seat state i && is_scanning (seat_at state i)
    && is_complete state.shape i (scan_of (seat_at state i)) && list_all is_down (seat_at state i).shields

-- what a step changes
abbrev pub after : State → Step → State
after state (step.Note i) = with_seat state i (after_note state.shape state.epoch (seat_at state i))
after state (step.Pin i) = with_seat state i (after_pin (seat_at state i))
after state (step.Leave i) = with_seat state i (after_leave (seat_at state i))
after state (step.Advance i) = if state.epoch == (seat_at state i).noted then record state { epoch = state.epoch + 1 }
    else state
after state (step.Look i j) = with_seat state i (after_look j (seat_at state j).status (seat_at state i))
after state (step.Eject i j) =
    let other = seat_at state j in
    let found = found_epoch (seat_at state i) j in
    let mid = with_seat state j (record other { status = ejected_stance found other.status }) in
    with_seat mid i (after_pass j (seat_at mid i))
after state (step.Load i root) = with_seat state i (after_load (root_at state root) (seat_at state i))
after state (step.Shield i place slot) = with_seat state i (after_shield place (shield.Set slot) (seat_at state i))
after state (step.Check i) = with_seat state i (after_check (seat_at state i))
after state (step.Unshield i place) = with_seat state i (after_shield place shield.Down (seat_at state i))
after state (step.Read i slot word) = state
after state (step.Write i slot word value) =
    record state { words = slice_set state.words slot (slice_set (slice_index_or state.words slot []) word value) }
after state (step.Replace i root old new) =
    if root_at state root == old
    then record (with_seat state i (after_replace old new (seat_at state i))) { roots = slice_set state.roots root new }
    else state
after state (step.Scan i j place) = with_seat state i
    (after_scan j place (slot_under (shield_at (seat_at state j) place)) (seat_at state i))
after state (step.Give i) = with_seat state i (after_give state.epoch (seat_at state i))

-- the answer to the read of a shield
abbrev pub found_under : Option ℕ → Answer
found_under None = answer.Empty
found_under (Some slot) = answer.Holds slot

-- the answer to a check of a seat with this status
abbrev pub check_answer : Stance → Answer
check_answer stance.Out = answer.Ejected
check_answer (stance.In epoch) = answer.Valid
check_answer (stance.Ejected epoch) = answer.Ejected

-- what a step answers
abbrev pub answer_of : State → Step → Answer
answer_of state (step.Note i) = answer.Epoch state.epoch
answer_of state (step.Pin i) = answer.In (seat_at state i).noted
answer_of state (step.Leave i) = answer.Out
answer_of state (step.Advance i) = if state.epoch == (seat_at state i).noted then answer.Epoch (state.epoch + 1)
    else answer.Lost
answer_of state (step.Look i j) =
    let seat = seat_at state i in
    let status = (seat_at state j).status in
    if can_pass (scan_of seat).candidates seat.retired status then answer.Passed else answer.In (epoch_of status)
answer_of state (step.Eject i j) =
    if is_in_at (found_epoch (seat_at state i) j) (seat_at state j).status then answer.Ejected else answer.Lost
answer_of state (step.Load i root) = answer.Slot (root_at state root)
answer_of state (step.Shield i place slot) = answer.Set
answer_of state (step.Check i) = check_answer (seat_at state i).status
answer_of state (step.Unshield i place) = answer.Cleared
answer_of state (step.Read i slot word) = answer.Word (word_at state slot word)
answer_of state (step.Write i slot word value) = answer.Written
answer_of state (step.Replace i root old new) = if root_at state root == old then answer.Replaced else answer.Other
answer_of state (step.Scan i j place) = found_under (slot_under (shield_at (seat_at state j) place))
answer_of state (step.Give i) =
    let seat = seat_at state i in
    answer.Given (count_by (λ mark. mark) (given_slots seat))
    (count_by is_retired (after_give state.epoch seat).retired)

-- a step from a state: the answer and the state after it, or no answer and the same state where it isn't enabled
abbrev pub next : State → Step → Option Answer × State
next state step = if is_enabled state step then (Some (answer_of state step), after state step) else (None, state)
