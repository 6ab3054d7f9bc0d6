-- What a seat's entry stands for after a step of the seat.
use Rattle.std.proofs.Common.{◌≡◌, ℕ, ◌<◌, Bool, true, false, List, [], length, map, replicate, get_or, set, Option}
use Rattle.std.proofs.Common.{Some, None, cond, is_some, unwrap_or, not, ◌&&◌, eqb, refl, sym, ◌∙◌, ap, subst, arith}
use Rattle.std.proofs.lemmas.List.{length-map, length-set}
use Rattle.pebr_core.specs.declared.kinds.Shape.{Shape}
use Rattle.pebr_core.specs.declared.kinds.Stance.{Stance}
use Rattle.pebr_core.specs.declared.seats.SeatData.{SeatData}
use Rattle.pebr_core.specs.declared.kinds.Step.TheVariants as step
use Rattle.pebr_core.specs.declared.machine.Core.TheInside.{Inside}
use Rattle.pebr_core.specs.State.{Seat, State, has, seat_at, scan_of, found_at, no_scan, is_retired, is_out, slot_count}
use Rattle.pebr_core.specs.Steps.{empty_set_below, tag_with, after_note, after_pin, after_leave, after_look, after_pass}
use Rattle.pebr_core.specs.Steps.{found_epoch, can_pass, epoch_of, ejected_stance, is_seat, is_scanning, is_enabled}
use Rattle.pebr_core.specs.Steps.{after}
use Rattle.pebr_core.specs.Steps.{next, with_seat, with_scan, with_passed, with_look}
use Rattle.pebr_core.specs.Entries.{noted_entry, pinned_entry, left_entry, passing_entry, finding_entry, can_pass_entry}
use Rattle.pebr_core.specs.Entries.{looking_entry, ejected_entry}
use Rattle.pebr_core.specs.Kept.{IsSound}
use Rattle.pebr_core.specs.Shown.{scan_parts, shown_seat, shown_state, HasRoom, IsCore}
use Rattle.std.proofs.lemmas.Bool.{false≢true, and_parts, ltb-true}
use Rattle.std.proofs.lemmas.Option.{none-some}
use Rattle.pebr_core.proofs.SeatChange.{seat_changed}
use Rattle.pebr_core.proofs.PinSteps.{eject_seat_sound}
use Rattle.pebr_core.proofs.Law.{step_sound, next_enabled}
use Rattle.pebr_core.proofs.Written.{written, step_done, seat_known, seat_read, room_read, shown_written, written_held}
use Rattle.pebr_core.proofs.Marks.{map_same, map_same_rows, get_or-map_default}

-- Note

pub noted-shown : (shape : Shape) (epoch : ℕ) (entry : SeatData) → HasRoom shape entry
    → shown_seat (noted_entry epoch entry) ≡ after_note shape epoch (shown_seat entry)
noted-shown shape epoch entry room =
    let retired = map (tag_with epoch) entry.retired in
    let with : List (Option ℕ) → List Bool → List (List Bool) → List Bool → Seat =
    λ looked passed scanned kept. record (shown_seat entry) {
      noted = epoch;
      retired = retired;
      scan =
          Some (record {
            candidates = map is_retired retired;
            looked = looked;
            passed = passed;
            scanned =
                scanned;
            kept = kept;
          });
    } in
    let looked : map (λ _. None) entry.scan.looked ≡ replicate shape.seats None =
    map_same entry.scan.looked None ∙ ap (λ n. replicate n None) room.looked in
    let passed : empty_set_below entry.scan.passed ≡ replicate shape.seats false =
    map_same entry.scan.passed false ∙ ap (λ n. replicate n false) room.passed in
    let kept : empty_set_below entry.scan.kept ≡ replicate (slot_count shape) false =
    map_same entry.scan.kept false ∙ ap (λ n. replicate n false) room.kept in
    let scanned : map empty_set_below entry.scan.scanned ≡ replicate shape.seats (replicate shape.shields false) =
    map_same_rows entry.scan.scanned false shape.shields (λ j lt. room.shields j (subst (λ n. j < n) room.scanned lt))
    ∙ ap (λ n. replicate n (replicate shape.shields false)) room.scanned in
    ap (λ l. with l (empty_set_below entry.scan.passed) (map empty_set_below entry.scan.scanned)
    (empty_set_below entry.scan.kept)) looked
    ∙ (ap (λ p. with (replicate shape.seats None) p (map empty_set_below entry.scan.scanned)
    (empty_set_below entry.scan.kept)) passed
    ∙ (ap (λ s. with (replicate shape.seats None) (replicate shape.seats false) s (empty_set_below entry.scan.kept))
    scanned
    ∙ ap (λ k. with (replicate shape.seats None) (replicate shape.seats false)
    (replicate shape.seats (replicate shape.shields false)) k) kept))

pub noted-room : (shape : Shape) (epoch : ℕ) (entry : SeatData) → HasRoom shape entry
    → HasRoom shape (noted_entry epoch entry)
noted-room shape epoch entry room = record {
  candidates = length-map (map (tag_with epoch) entry.retired) is_retired
      ∙ (length-map entry.retired (tag_with epoch) ∙ (sym (length-map entry.retired is_retired) ∙ room.candidates));
  looked = length-map entry.scan.looked (λ _. None) ∙ room.looked;
  passed = length-map entry.scan.passed (λ _. false) ∙ room.passed;
  scanned = length-map entry.scan.scanned empty_set_below ∙ room.scanned;
  shields = λ j lt. ap length (get_or-map_default empty_set_below entry.scan.scanned j [])
      ∙ (length-map (get_or entry.scan.scanned j []) (λ _. false) ∙ room.shields j lt);
  kept = length-map entry.scan.kept (λ _. false) ∙ room.kept;
}

pub note_done : (core : Inside) (state : State) (i : ℕ) (entry new : SeatData) → IsCore core → shown_state core ≡ state
    → is_enabled state (step.Note i) ≡ true → entry ≡ get_or core.seats.items i entry
    → new ≡ noted_entry core.epoch entry
    → IsCore (written core i new) × (shown_state (written core i new) ≡ (next state (step.Note i)).1)
note_done core state i entry new held same enabled read made =
    let known = seat_known core state i entry held same
    (ltb-true i state.shape.seats (and_parts (is_seat state i) (is_out (seat_at state i).status) enabled).0) read in
    step_done core state i entry new (step.Note i) held same enabled
    (subst (HasRoom core.shape) (sym made) (noted-room core.shape core.epoch entry known.1))
    (ap (λ seat. with_seat (shown_state core) i seat)
    (ap (after_note core.shape core.epoch) known.0
    ∙ (sym (noted-shown core.shape core.epoch entry known.1) ∙ ap shown_seat (sym made))))

-- Pin

pub pinned-room : (shape : Shape) (entry : SeatData) → HasRoom shape entry → HasRoom shape (pinned_entry entry)
pinned-room shape entry room =
    record {
      candidates = room.candidates;
      looked = room.looked;
      passed = room.passed;
      scanned = room.scanned;
      shields =
          room.shields;
      kept = room.kept;
    }

pub pin_done : (core : Inside) (state : State) (i : ℕ) (entry new : SeatData) → IsCore core → shown_state core ≡ state
    → is_enabled state (step.Pin i) ≡ true → entry ≡ get_or core.seats.items i entry → new ≡ pinned_entry entry
    → IsCore (written core i new) × (shown_state (written core i new) ≡ (next state (step.Pin i)).1)
pin_done core state i entry new held same enabled read made =
    let known = seat_known core state i entry held same
    (ltb-true i state.shape.seats (and_parts (is_seat state i) (is_out (seat_at state i).status) enabled).0) read in
    step_done core state i entry new (step.Pin i) held same enabled
    (subst (HasRoom core.shape) (sym made) (pinned-room core.shape entry known.1))
    (ap (λ seat. with_seat (shown_state core) i seat) (ap after_pin known.0 ∙ ap shown_seat (sym made)))

-- Leave

pub left-room : (shape : Shape) (entry : SeatData) → HasRoom shape entry → HasRoom shape (left_entry entry)
left-room shape entry room =
    record {
      candidates = room.candidates;
      looked = room.looked;
      passed = room.passed;
      scanned = room.scanned;
      shields =
          room.shields;
      kept = room.kept;
    }

pub leave_done : (core : Inside) (state : State) (i : ℕ) (entry new : SeatData) → IsCore core → shown_state core ≡ state
    → is_enabled state (step.Leave i) ≡ true → entry ≡ get_or core.seats.items i entry → new ≡ left_entry entry
    → IsCore (written core i new) × (shown_state (written core i new) ≡ (next state (step.Leave i)).1)
leave_done core state i entry new held same enabled read made =
    let known = seat_known core state i entry held same
    (ltb-true i state.shape.seats (and_parts (is_seat state i) (not (is_out (seat_at state i).status)) enabled).0)
    read in
    step_done core state i entry new (step.Leave i) held same enabled
    (subst (HasRoom core.shape) (sym made) (left-room core.shape entry known.1))
    (ap (λ seat. with_seat (shown_state core) i seat) (ap after_leave known.0 ∙ ap shown_seat (sym made)))

-- a scan that is open

pub open_scan : (entry : SeatData) → is_some (shown_seat entry).scan ≡ true → entry.scan.is_open ≡ true
open_scan entry h = pick entry.scan.is_open h
  where
    pick : (b : Bool) → is_some (cond b (Some (scan_parts entry.retired entry.scan)) None) ≡ true → b ≡ true
    pick true h = refl
    pick false h = absurd (false≢true h)

pub open-scan_of : (entry : SeatData) → entry.scan.is_open ≡ true
    → scan_of (shown_seat entry) ≡ scan_parts entry.retired entry.scan
open-scan_of entry h = ap (λ b. unwrap_or (cond b (Some (scan_parts entry.retired entry.scan)) None) no_scan) h

-- Look

pub passing-shown : (other : ℕ) (entry : SeatData) → entry.scan.is_open ≡ true
    → shown_seat (passing_entry other entry)
    ≡ with_scan (shown_seat entry) (with_passed (scan_parts entry.retired entry.scan) other)
passing-shown other entry h =
    ap (λ b. record (shown_seat entry) {
      scan =
          cond b (Some (with_passed (scan_parts entry.retired entry.scan) other)) None;
    }) h

pub finding-shown : (other epoch : ℕ) (entry : SeatData) → entry.scan.is_open ≡ true
    → shown_seat (finding_entry other epoch entry)
    ≡ with_scan (shown_seat entry) (with_look (scan_parts entry.retired entry.scan) other epoch)
finding-shown other epoch entry h =
    ap (λ b. record (shown_seat entry) {
      scan =
          cond b (Some (with_look (scan_parts entry.retired entry.scan) other epoch)) None;
    }) h

pub passing-room : (shape : Shape) (other : ℕ) (entry : SeatData) → HasRoom shape entry
    → HasRoom shape (passing_entry other entry)
passing-room shape other entry room = record {
  candidates = room.candidates;
  looked = room.looked;
  passed = length-set entry.scan.passed other true ∙ room.passed;
  scanned = room.scanned;
  shields = room.shields;
  kept = room.kept;
}

pub finding-room : (shape : Shape) (other epoch : ℕ) (entry : SeatData) → HasRoom shape entry
    → HasRoom shape (finding_entry other epoch entry)
finding-room shape other epoch entry room =
    record {
      candidates = room.candidates;
      looked =
          length-set entry.scan.looked other (Some epoch) ∙ room.looked;
      passed = room.passed;
      scanned = room.scanned;
      shields = room.shields;
      kept = room.kept;
    }

pub looking-shown : (other : ℕ) (status : Stance) (entry : SeatData) → entry.scan.is_open ≡ true
    → shown_seat (looking_entry other status entry) ≡ after_look other status (shown_seat entry)
looking-shown other status entry h =
    pick (can_pass_entry entry status)
    ∙ ap (λ scan. cond (can_pass scan.candidates entry.retired status)
    (with_scan (shown_seat entry) (with_passed scan other))
    (with_scan (shown_seat entry) (with_look scan other (epoch_of status)))) (sym (open-scan_of entry h))
  where
    pick : (c : Bool) → shown_seat (cond c (passing_entry other entry) (finding_entry other (epoch_of status) entry))
        ≡ cond c (with_scan (shown_seat entry) (with_passed (scan_parts entry.retired entry.scan) other))
        (with_scan (shown_seat entry) (with_look (scan_parts entry.retired entry.scan) other (epoch_of status)))
    pick true = passing-shown other entry h
    pick false = finding-shown other (epoch_of status) entry h

pub looking-room : (shape : Shape) (other : ℕ) (status : Stance) (entry : SeatData) → HasRoom shape entry
    → HasRoom shape (looking_entry other status entry)
looking-room shape other status entry room = pick (can_pass_entry entry status)
  where
    pick : (c : Bool) → HasRoom shape (cond c (passing_entry other entry) (finding_entry other (epoch_of status) entry))
    pick true = passing-room shape other entry room
    pick false = finding-room shape other (epoch_of status) entry room

-- what an enabled Look tells
pub look_enabled : (state : State) (i j : ℕ) → is_enabled state (step.Look i j) ≡ true
    → (i < state.shape.seats) × (is_some (seat_at state i).scan ≡ true)
look_enabled state i j h =
    let a = is_seat state i in
    let b = is_seat state j in
    let s = is_scanning (seat_at state i) in
    let n = not (eqb j i) in
    let w = not (has (scan_of (seat_at state i)).passed j) in
    let p3 = and_parts (a && b && s) n (and_parts (a && b && s && n) w h).0 in
    let p2 = and_parts (a && b) s p3.0 in
    (ltb-true i state.shape.seats (and_parts a b p2.0).0, p2.1)

pub look_done : (core : Inside) (state : State) (i j : ℕ) (entry new : SeatData) (status : Stance) → IsCore core
    → shown_state core ≡ state
    → is_enabled state (step.Look i j) ≡ true → entry ≡ get_or core.seats.items i entry
    → status ≡ (seat_at state j).status → new ≡ looking_entry j status entry
    → IsCore (written core i new) × (shown_state (written core i new) ≡ (next state (step.Look i j)).1)
look_done core state i j entry new status held same enabled read is_status made =
    let parts = look_enabled state i j enabled in
    let known = seat_known core state i entry held same parts.0 read in
    let scanning : is_some (shown_seat entry).scan ≡ true =
    ap (λ seat. is_some seat.scan) (sym known.0) ∙ (ap (λ z. is_some (seat_at z i).scan) same ∙ parts.1) in
    let opened = open_scan entry scanning in
    let status_shown : (seat_at (shown_state core) j).status ≡ status =
    ap (λ z. (seat_at z j).status) same ∙ sym is_status in
    step_done core state i entry new (step.Look i j) held same enabled
    (subst (HasRoom core.shape) (sym made) (looking-room core.shape j status entry known.1))
    (ap (λ seat. with_seat (shown_state core) i seat)
    (ap (λ s. after_look j s (seat_at (shown_state core) i)) status_shown
    ∙ (ap (after_look j status) known.0 ∙ (sym (looking-shown j status entry opened) ∙ ap shown_seat (sym made)))))

-- Eject

pub eject_enabled : (state : State) (i j : ℕ) → is_enabled state (step.Eject i j) ≡ true
    → (i < state.shape.seats) × (j < state.shape.seats) × (is_some (seat_at state i).scan ≡ true)
eject_enabled state i j h =
    let a = is_seat state i in
    let b = is_seat state j in
    let s = is_scanning (seat_at state i) in
    let f = is_some (found_at (scan_of (seat_at state i)) j) in
    let w = not (has (scan_of (seat_at state i)).passed j) in
    let p3 = and_parts (a && b && s) f (and_parts (a && b && s && f) w h).0 in
    let p2 = and_parts (a && b) s p3.0 in
    let p1 = and_parts a b p2.0 in
    (ltb-true i state.shape.seats p1.0, ltb-true j state.shape.seats p1.1, p2.1)

-- a value that is there only where a step is enabled
pub found_where : (b : Bool) (o : Option ℕ) (x : ℕ) → cond b o None ≡ Some x → (b ≡ true) × (o ≡ Some x)
found_where true o x h = (refl, h)
found_where false o x h = absurd (none-some x h)

pub eject_done : (core : Inside) (state : State) (i j found : ℕ) (other hit entry new : SeatData) → IsCore core
    → shown_state core ≡ state
    → is_enabled state (step.Eject i j) ≡ true → found_at (scan_of (seat_at state i)) j ≡ Some found
    → other ≡ get_or core.seats.items j other → hit ≡ ejected_entry found other
    → entry ≡ get_or (set core.seats.items j hit) i entry → new ≡ passing_entry j entry
    → IsCore (written (written core j hit) i new)
    × (shown_state (written (written core j hit) i new) ≡ (next state (step.Eject i j)).1)
eject_done core state i j found other hit entry new held same enabled is_found read_other made_other read made =
    let parts = eject_enabled state i j enabled in
    let shown = shown_state core in
    let mid_core = written core j hit in
    let known = seat_known core state j other held same parts.1 read_other in
    let i_inside : i < core.shape.seats = subst (λ n. i < n) (sym (ap (λ z. z.shape.seats) same)) parts.0 in
    let j_inside : j < core.shape.seats = subst (λ n. j < n) (sym (ap (λ z. z.shape.seats) same)) parts.1 in
    let found_shown : found_epoch (seat_at shown i) j ≡ found =
    ap (λ z. found_epoch (seat_at z i) j) same ∙ ap (λ o. unwrap_or o 0) is_found in
    let hit_shown : shown_seat hit
    ≡ record (seat_at shown j) { status = ejected_stance found (seat_at shown j).status } =
    ap shown_seat made_other
    ∙ ap (λ (seat : Seat). record seat { status = ejected_stance found seat.status }) (sym known.0) in
    let mid : State =
    with_seat shown j (record (seat_at shown j) { status = ejected_stance found (seat_at shown j).status }) in
    let mid_shown : shown_state mid_core ≡ mid =
    shown_written core j hit ∙ ap (λ seat. with_seat shown j seat) hit_shown in
    let mid_sound : IsSound (shown_state mid_core) =
    subst IsSound (sym mid_shown) (eject_seat_sound shown j found held.sound j_inside) in
    let mid_held : IsCore mid_core = written_held core j other hit held
    (subst (HasRoom core.shape) (sym made_other)
    (record {
      candidates = known.1.candidates;
      looked = known.1.looked;
      passed = known.1.passed;
      scanned =
          known.1.scanned;
      shields = known.1.shields;
      kept = known.1.kept;
    })) mid_sound in
    let entry_shown : seat_at (shown_state mid_core) i ≡ shown_seat entry =
    seat_read mid_core i entry mid_held i_inside read in
    let entry_room : HasRoom core.shape entry = room_read mid_core i entry mid_held i_inside read in
    let shown_scanning : is_some (seat_at shown i).scan ≡ true = ap (λ z. is_some (seat_at z i).scan) same ∙ parts.2 in
    let mid_scanning : is_some (seat_at mid i).scan ≡ true =
    seat_changed (λ seat. is_some seat.scan ≡ true) shown j
    (record (seat_at shown j) { status = ejected_stance found (seat_at shown j).status }) i
    (omega (arith, held.sound.shape.seats)) (λ e. subst (λ k. is_some (seat_at shown k).scan ≡ true) e shown_scanning)
    (λ _. shown_scanning) in
    let opened =
    open_scan entry (ap (λ seat. is_some seat.scan) (sym entry_shown)
    ∙ (ap (λ z. is_some (seat_at z i).scan) mid_shown ∙ mid_scanning)) in
    let new_shown : shown_seat new ≡ after_pass j (seat_at mid i) =
    ap shown_seat made ∙ (passing-shown j entry opened
    ∙ (ap (λ scan. with_scan (shown_seat entry) (with_passed scan j)) (sym (open-scan_of entry opened))
    ∙ (ap (after_pass j) (sym entry_shown) ∙ ap (λ z. after_pass j (seat_at z i)) mid_shown))) in
    let whole : shown_state (written mid_core i new) ≡ with_seat mid i (after_pass j (seat_at mid i)) =
    shown_written mid_core i new
    ∙ (ap (λ z. with_seat z i (shown_seat new)) mid_shown ∙ ap (λ seat. with_seat mid i seat) new_shown) in
    let found_mid : ℕ → State = λ f. with_seat shown j
    (record (seat_at shown j) { status = ejected_stance f (seat_at shown j).status }) in
    let is_after : shown_state (written mid_core i new) ≡ after shown (step.Eject i j) =
    whole ∙ ap (λ f. with_seat (found_mid f) i (after_pass j (seat_at (found_mid f) i))) (sym found_shown) in
    let shown_enabled : is_enabled shown (step.Eject i j) ≡ true =
    subst (λ z. is_enabled z (step.Eject i j) ≡ true) (sym same) enabled in (
      written_held mid_core i entry new mid_held
          (subst (HasRoom core.shape) (sym made) (passing-room core.shape j entry entry_room))
          (subst IsSound (sym is_after) (step_sound shown (step.Eject i j) held.sound shown_enabled)),
      is_after ∙ (sym (ap (λ n. n.1) (next_enabled shown (step.Eject i j) shown_enabled))
          ∙ ap (λ z. (next z (step.Eject i j)).1) same),
    )
