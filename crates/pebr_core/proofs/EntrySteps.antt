-- What a core's data stand for after the steps of shields, slots and scans.
use Rattle.std.proofs.Common.{◌≡◌, ◌≢◌, ℕ, ◌<◌, Bool, true, false, List, [], length, map, get_or, set, Option, Some}
use Rattle.std.proofs.Common.{None, cond, is_some, unwrap_or, not, ◌&&◌, eqb, refl, sym, ◌∙◌, ap, subst, length-set}
use Rattle.std.proofs.lemmas.Bool.{false≢true, and_parts, ltb-true, eq-eqb}
use Rattle.std.proofs.lemmas.List.{length-map}
use Rattle.pebr_core.specs.declared.kinds.Shape.{Shape}
use Rattle.pebr_core.specs.declared.kinds.Retired.{Retired}
use Rattle.pebr_core.specs.declared.kinds.Retired.TheVariants as retire
use Rattle.pebr_core.specs.declared.kinds.ShieldAt.TheVariants as shield
use Rattle.pebr_core.specs.declared.kinds.Stance.{Stance}
use Rattle.pebr_core.specs.declared.kinds.Stance.TheVariants as stance
use Rattle.pebr_core.specs.declared.kinds.Step.{Step}
use Rattle.pebr_core.specs.declared.kinds.Step.TheVariants as step
use Rattle.pebr_core.specs.declared.seats.SeatData.{SeatData}
use Rattle.pebr_core.specs.declared.machine.Core.TheInside.{Inside}
use Rattle.pebr_core.specs.State.{Scan, Seat, State, has, seat_at, root_at, shield_at, scan_of, has_scanned, slot_under}
use Rattle.pebr_core.specs.State.{is_retired, is_out, is_down, no_scan}
use Rattle.pebr_core.specs.Steps.{is_seat, is_root, is_place, is_slot, is_shielded, is_scanning, is_complete}
use Rattle.pebr_core.specs.Steps.{is_enabled, after, next, with_seat, with_scan, with_scanned, with_kept, given_slots}
use Rattle.pebr_core.specs.Steps.{after_load, after_shield, after_check, after_replace, after_scan, after_give}
use Rattle.pebr_core.specs.Steps.{slots_without, union_of}
use Rattle.pebr_core.specs.Kept.{IsSound}
use Rattle.pebr_core.specs.Marks.{given_marks}
use Rattle.pebr_core.specs.Shown.{scan_parts, shown_seat, shown_state, HasRoom, IsCore}
use Rattle.pebr_core.specs.Entries.{loaded_entry, shielded_entry, checked_entry, replaced_entry, kept_with}
use Rattle.pebr_core.specs.Entries.{scanned_entry, given_entry}
use Rattle.std.specs.List.{list_all}
use Rattle.pebr_core.proofs.Marks.{set_anywhere, get_or-map_default, length-slots_without}
use Rattle.pebr_core.proofs.Law.{step_sound, next_enabled}
use Rattle.pebr_core.proofs.Written.{written, step_done, seat_known, room_written, shown_written}
use Rattle.pebr_core.proofs.SeatSteps.{open_scan, open-scan_of}

-- the room of an entry whose scan is as before, and which has as many retired slots
pub same_room : (shape : Shape) (old new : SeatData) → length new.retired ≡ length old.retired
    → new.scan.looked ≡ old.scan.looked → new.scan.passed ≡ old.scan.passed → new.scan.scanned ≡ old.scan.scanned
    → new.scan.kept ≡ old.scan.kept
    → HasRoom shape old → HasRoom shape new
same_room shape old new retired looked passed scanned kept room = record {
  candidates = length-map new.retired is_retired
      ∙ (retired ∙ (sym (length-map old.retired is_retired) ∙ room.candidates));
  looked = ap (λ l. length l) looked ∙ room.looked;
  passed = ap (λ l. length l) passed ∙ room.passed;
  scanned = ap (λ l. length l) scanned ∙ room.scanned;
  shields = λ j lt. ap (λ rows. length (get_or rows j [])) scanned ∙ room.shields j lt;
  kept = ap (λ l. length l) kept ∙ room.kept;
}

-- Load

pub load_done : (core : Inside) (state : State) (i root slot : ℕ) (entry new : SeatData) → IsCore core
    → shown_state core ≡ state
    → is_enabled state (step.Load i root) ≡ true → slot ≡ root_at state root → entry ≡ get_or core.seats.items i entry
    → new ≡ loaded_entry slot entry
    → IsCore (written core i new) × (shown_state (written core i new) ≡ (next state (step.Load i root)).1)
load_done core state i root slot entry new held same enabled is_slot read made =
    let p = and_parts (is_seat state i && is_root state root) (not (is_out (seat_at state i).status)) enabled in
    let known = seat_known core state i entry held same
    (ltb-true i state.shape.seats (and_parts (is_seat state i) (is_root state root) p.0).0) read in
    let loaded : root_at (shown_state core) root ≡ slot = ap (λ z. root_at z root) same ∙ sym is_slot in
    step_done core state i entry new (step.Load i root) held same enabled
    (subst (HasRoom core.shape) (sym made)
    (same_room core.shape entry (loaded_entry slot entry) refl refl refl refl refl known.1))
    (ap (λ seat. with_seat (shown_state core) i seat)
    (ap (λ s. after_load s (seat_at (shown_state core) i)) loaded
    ∙ (ap (after_load slot) known.0 ∙ ap shown_seat (sym made))))

-- Shield and Unshield

pub shield_done : (core : Inside) (state : State) (i place slot : ℕ) (entry new : SeatData) → IsCore core
    → shown_state core ≡ state
    → is_enabled state (step.Shield i place slot) ≡ true → entry ≡ get_or core.seats.items i entry
    → new ≡ shielded_entry place (shield.Set slot) entry
    → IsCore (written core i new) × (shown_state (written core i new) ≡ (next state (step.Shield i place slot)).1)
shield_done core state i place slot entry new held same enabled read made =
    let a = is_seat state i in
    let p = is_place state place in
    let s = is_slot state slot in
    let o = not (is_out (seat_at state i).status) in
    let p4 = and_parts (a && p && s && o) (has (seat_at state i).seen slot) enabled in
    let p3 = and_parts (a && p && s) o p4.0 in
    let p2 = and_parts (a && p) s p3.0 in
    let known = seat_known core state i entry held same (ltb-true i state.shape.seats (and_parts a p p2.0).0) read in
    step_done core state i entry new (step.Shield i place slot) held same enabled
    (subst (HasRoom core.shape) (sym made)
    (same_room core.shape entry (shielded_entry place (shield.Set slot) entry) refl refl refl refl refl known.1))
    (ap (λ seat. with_seat (shown_state core) i seat)
    (ap (after_shield place (shield.Set slot)) known.0 ∙ ap shown_seat (sym made)))

pub unshield_done : (core : Inside) (state : State) (i place : ℕ) (entry new : SeatData) → IsCore core
    → shown_state core ≡ state
    → is_enabled state (step.Unshield i place) ≡ true → entry ≡ get_or core.seats.items i entry
    → new ≡ shielded_entry place shield.Down entry
    → IsCore (written core i new) × (shown_state (written core i new) ≡ (next state (step.Unshield i place)).1)
unshield_done core state i place entry new held same enabled read made =
    let known = seat_known core state i entry held same
    (ltb-true i state.shape.seats (and_parts (is_seat state i) (is_place state place) enabled).0) read in
    step_done core state i entry new (step.Unshield i place) held same enabled
    (subst (HasRoom core.shape) (sym made)
    (same_room core.shape entry (shielded_entry place shield.Down entry) refl refl refl refl refl known.1))
    (ap (λ seat. with_seat (shown_state core) i seat)
    (ap (after_shield place shield.Down) known.0 ∙ ap shown_seat (sym made)))

-- Check

pub check_done : (core : Inside) (state : State) (i : ℕ) (entry new : SeatData) → IsCore core → shown_state core ≡ state
    → is_enabled state (step.Check i) ≡ true → entry ≡ get_or core.seats.items i entry → new ≡ checked_entry entry
    → IsCore (written core i new) × (shown_state (written core i new) ≡ (next state (step.Check i)).1)
check_done core state i entry new held same enabled read made =
    let known = seat_known core state i entry held same
    (ltb-true i state.shape.seats (and_parts (is_seat state i) (not (is_out (seat_at state i).status)) enabled).0)
    read in
    step_done core state i entry new (step.Check i) held same enabled
    (subst (HasRoom core.shape) (sym made)
    (same_room core.shape entry (checked_entry entry) refl refl refl refl refl known.1))
    (ap (λ seat. with_seat (shown_state core) i seat) (ap after_check known.0 ∙ ap shown_seat (sym made)))

-- Write

abbrev pub with_words : Inside → List (List ℕ) → Inside
with_words core words =
    record { shape = core.shape; epoch = core.epoch; roots = core.roots; words = words; seats = core.seats }

pub write_done : (core : Inside) (state : State) (i slot word value : ℕ) (words : List (List ℕ)) → IsCore core
    → shown_state core ≡ state
    → is_enabled state (step.Write i slot word value) ≡ true
    → words ≡ set core.words slot (set (get_or core.words slot []) word value)
    → IsCore (with_words core words)
    × (shown_state (with_words core words) ≡ (next state (step.Write i slot word value)).1)
write_done core state i slot word value words held same enabled made =
    let s : Step = step.Write i slot word value in
    let enabled_here : is_enabled (shown_state core) s ≡ true = subst (λ z. is_enabled z s ≡ true) (sym same) enabled in
    let is_after : shown_state (with_words core words) ≡ after (shown_state core) s =
    ap (λ w. shown_state (with_words core w)) made in (
      record {
        sound = subst IsSound (sym is_after) (step_sound (shown_state core) s held.sound enabled_here);
        limits =
            held.limits;
        room = held.room;
      },
      is_after ∙ (sym (ap (λ n. n.1) (next_enabled (shown_state core) s enabled_here)) ∙ ap (λ z. (next z s).1) same),
    )

-- Replace

-- a seat that isn't out is at no scan
closed_where : {S : Type 0} {out : S} {status : S} (entry : SeatData) → status ≢ out
    → ((scan : Scan) → (shown_seat entry).scan ≡ Some scan → status ≡ out) → entry.scan.is_open ≡ false
closed_where entry engaged scans = pick entry.scan.is_open refl
  where
    pick : (b : Bool) → entry.scan.is_open ≡ b → entry.scan.is_open ≡ false
    pick false e = e
    pick true e =
        absurd (engaged
        (scans (scan_parts entry.retired entry.scan)
        (ap (λ b. cond b (Some (scan_parts entry.retired entry.scan)) None) e)))

replaced-shown : (old new : ℕ) (entry : SeatData) → entry.scan.is_open ≡ false
    → shown_seat (replaced_entry old new entry) ≡ after_replace old new (shown_seat entry)
replaced-shown old new entry closed =
    let by : Option Scan → Seat = λ scan. record (after_replace old new (shown_seat entry)) { scan = scan } in
    ap by (ap (λ b. cond b (Some (scan_parts (set entry.retired old retire.Untagged) entry.scan)) None) closed
    ∙ sym (ap (λ b. cond b (Some (scan_parts entry.retired entry.scan)) None) closed))

abbrev pub with_root : Inside → ℕ → SeatData → List ℕ → Inside
with_root core i new roots =
    record {
      shape = core.shape;
      epoch = core.epoch;
      roots = roots;
      words = core.words;
      seats =
          (written core i new).seats;
    }

pub replace_done : (core : Inside) (state : State) (i root old fresh : ℕ) (entry new : SeatData) (roots : List ℕ)
    → IsCore core → shown_state core ≡ state
    → is_enabled state (step.Replace i root old fresh) ≡ true → root_at state root ≡ old
    → entry ≡ get_or core.seats.items i entry → new ≡ replaced_entry old fresh entry
    → roots ≡ set core.roots root fresh
    → IsCore (with_root core i new roots)
    × (shown_state (with_root core i new roots) ≡ (next state (step.Replace i root old fresh)).1)
replace_done core state i root old fresh entry new roots held same enabled at_root read made roots_made =
    let s : Step = step.Replace i root old fresh in
    let shown = shown_state core in
    let inside = replace_inside state i root old fresh enabled in
    let known = seat_known core state i entry held same inside read in
    let enabled_here : is_enabled shown s ≡ true = subst (λ z. is_enabled z s ≡ true) (sym same) enabled in
    let changed : Seat → List ℕ → State = λ seat rs. record (with_seat shown i seat) { roots = rs } in
    let test : eqb (root_at shown root) old ≡ true =
    ap (λ z. eqb (root_at z root) old) same ∙ eq-eqb (root_at state root) old at_root in
    let closed : entry.scan.is_open ≡ false =
    closed_where entry (is_engaged (seat_at state i).status (replace_engaged state i root old fresh enabled))
    (λ scan at. ap (λ z. (seat_at z i).status) (sym same)
    ∙ (held.sound.kept.scans i scan (ap (λ seat. seat.scan) known.0 ∙ at)).out) in
    let seat_shown : shown_seat new ≡ after_replace old fresh (seat_at shown i) =
    ap shown_seat made ∙ (replaced-shown old fresh entry closed ∙ ap (after_replace old fresh) (sym known.0)) in
    let is_after : shown_state (with_root core i new roots) ≡ after shown s =
    ap (λ (z : State). record z { roots = roots }) (shown_written core i new)
    ∙ (ap (λ rs. changed (shown_seat new) rs) roots_made
    ∙ (ap (λ seat. changed seat (set core.roots root fresh)) seat_shown
    ∙ ap (λ b. cond b (changed (after_replace old fresh (seat_at shown i)) (set core.roots root fresh)) shown)
    (sym test))) in (
      record {
        sound = subst IsSound (sym is_after) (step_sound shown s held.sound enabled_here);
        limits = held.limits;
        room = room_written core i entry new held
            (subst (HasRoom core.shape) (sym made)
            (same_room core.shape entry (replaced_entry old fresh entry)
            (length-set entry.retired old retire.Untagged) refl refl refl refl known.1));
      },
      is_after ∙ (sym (ap (λ n. n.1) (next_enabled shown s enabled_here)) ∙ ap (λ z. (next z s).1) same),
    )
  where
    is_engaged : (status : Stance) → not (is_out status) ≡ true → status ≢ stance.Out
    is_engaged status h e = false≢true (sym (ap (λ x. not (is_out x)) e) ∙ h)

    replace_engaged : (z : State) (i' root' old' new' : ℕ) → is_enabled z (step.Replace i' root' old' new') ≡ true
        → not (is_out (seat_at z i').status) ≡ true
    replace_engaged z i' root' old' new' h =
        let a = is_seat z i' in
        let r = is_root z root' in
        let o = is_slot z old' in
        let f = is_slot z new' in
        let e = not (is_out (seat_at z i').status) in
        let v = is_shielded (seat_at z i') old' in
        (and_parts (a && r && o && f) e
        (and_parts (a && r && o && f && e) v
        (and_parts (a && r && o && f && e && v) (has (seat_at z i').fresh new') h).0).0).1

    replace_inside : (z : State) (i' root' old' new' : ℕ) → is_enabled z (step.Replace i' root' old' new') ≡ true
        → i' < z.shape.seats
    replace_inside z i' root' old' new' h =
        let a = is_seat z i' in
        let r = is_root z root' in
        let o = is_slot z old' in
        let f = is_slot z new' in
        let e = not (is_out (seat_at z i').status) in
        let v = is_shielded (seat_at z i') old' in
        let p5 = and_parts (a && r && o && f && e) v
        (and_parts (a && r && o && f && e && v) (has (seat_at z i').fresh new') h).0 in
        let p2 = and_parts (a && r) o (and_parts (a && r && o) f (and_parts (a && r && o && f) e p5.0).0).0 in
        ltb-true i' z.shape.seats (and_parts a r p2.0).0

-- Scan

pub scan_done : (core : Inside) (state : State) (i j place : ℕ) (slot : Option ℕ) (entry new : SeatData) → IsCore core
    → shown_state core ≡ state
    → is_enabled state (step.Scan i j place) ≡ true → slot ≡ slot_under (shield_at (seat_at state j) place)
    → entry ≡ get_or core.seats.items i entry → new ≡ scanned_entry j place slot entry
    → IsCore (written core i new) × (shown_state (written core i new) ≡ (next state (step.Scan i j place)).1)
scan_done core state i j place slot entry new held same enabled is_slot read made =
    let a = is_seat state i in
    let b = is_seat state j in
    let p = is_place state place in
    let s = is_scanning (seat_at state i) in
    let d = has (scan_of (seat_at state i)).passed j in
    let w = not (has_scanned (scan_of (seat_at state i)) j place) in
    let p5 = and_parts (a && b && p && s && d) w enabled in
    let p4 = and_parts (a && b && p && s) d p5.0 in
    let p3 = and_parts (a && b && p) s p4.0 in
    let p2 = and_parts (a && b) p p3.0 in
    let p1 = and_parts a b p2.0 in
    let known = seat_known core state i entry held same (ltb-true i state.shape.seats p1.0) read in
    let opened =
    open_scan entry (ap (λ seat. is_some seat.scan) (sym known.0)
    ∙ (ap (λ z. is_some (seat_at z i).scan) same ∙ p3.1)) in
    let slot_shown : slot_under (shield_at (seat_at (shown_state core) j) place) ≡ slot =
    ap (λ z. slot_under (shield_at (seat_at z j) place)) same ∙ sym is_slot in
    step_done core state i entry new (step.Scan i j place) held same enabled
    (subst (HasRoom core.shape) (sym made) (scanned-room core.shape j place slot entry known.1))
    (ap (λ seat. with_seat (shown_state core) i seat)
    (ap (λ o. after_scan j place o (seat_at (shown_state core) i)) slot_shown
    ∙ (ap (after_scan j place slot) known.0
    ∙ (sym (scanned-shown j place slot entry opened) ∙ ap shown_seat (sym made)))))
  where
    kept_length : (rs : List Retired) (kept : List Bool) (o : Option ℕ) → length (kept_with rs kept o) ≡ length kept
    kept_length rs kept None = refl
    kept_length rs kept (Some n) = pick (is_retired (get_or rs n retire.No))
      where
        pick : (b : Bool) → length (cond b (set kept n true) kept) ≡ length kept
        pick true = length-set kept n true
        pick false = refl

    scanned-room : (shape : Shape) (j' place' : ℕ) (o : Option ℕ) (e : SeatData) → HasRoom shape e
        → HasRoom shape (scanned_entry j' place' o e)
    scanned-room shape j' place' o e room = record {
      candidates = room.candidates;
      looked = room.looked;
      passed = room.passed;
      scanned = length-set e.scan.scanned j' (set (get_or e.scan.scanned j' []) place' true) ∙ room.scanned;
      shields = λ k lt. set_anywhere (λ row. length row ≡ shape.shields) e.scan.scanned j'
          (set (get_or e.scan.scanned j' []) place' true) [] k
          (λ here. length-set (get_or e.scan.scanned j' []) place' true
          ∙ (ap (λ n. length (get_or e.scan.scanned n [])) (sym here) ∙ room.shields k lt))
          (room.shields k lt);
      kept = kept_length e.retired e.scan.kept o ∙ room.kept;
    }

    -- what is kept of the scan that the entry stands for
    kept_shown : (rs : List Retired) (scan : Scan) (o : Option ℕ) → scan.candidates ≡ map is_retired rs
        → record scan { kept = kept_with rs scan.kept o } ≡ with_kept scan o
    kept_shown rs scan None e = refl
    kept_shown rs scan (Some n) e = pick (is_retired (get_or rs n retire.No))
        ∙ ap (λ b. cond b (record scan { kept = set scan.kept n true }) scan) test
      where
        test : is_retired (get_or rs n retire.No) ≡ has scan.candidates n
        test = sym (ap (λ c. has c n) e ∙ get_or-map_default is_retired rs n retire.No)

        pick : (b : Bool) → record scan { kept = cond b (set scan.kept n true) scan.kept }
            ≡ cond b (record scan { kept = set scan.kept n true }) scan
        pick true = refl
        pick false = refl

    scanned-shown : (j' place' : ℕ) (o : Option ℕ) (e : SeatData) → e.scan.is_open ≡ true
        → shown_seat (scanned_entry j' place' o e) ≡ after_scan j' place' o (shown_seat e)
    scanned-shown j' place' o e opened =
        ap (λ b. record (shown_seat e) {
          scan = cond b
              (Some (record (with_scanned (scan_parts e.retired e.scan) j' place') {
                kept =
                    kept_with e.retired e.scan.kept o;
              })) None;
        }) opened
        ∙ (ap (λ s. with_scan (shown_seat e) s)
        (kept_shown e.retired (with_scanned (scan_parts e.retired e.scan) j' place') o refl)
        ∙ ap (λ s. with_scan (shown_seat e) (with_kept (with_scanned s j' place') o)) (sym (open-scan_of e opened)))

-- Give

-- what the entry's test says of the seat that it stands for
pub can_give_shown : (entry : SeatData) (shape : Shape) (i : ℕ)
    → (entry.scan.is_open && is_complete shape i (scan_parts [] entry.scan) && list_all is_down entry.shields)
    ≡ (is_some (shown_seat entry).scan && is_complete shape i
    (scan_of (shown_seat entry)) && list_all is_down entry.shields)
can_give_shown entry shape i = pick entry.scan.is_open
  where
    pick : (b : Bool) → (b && is_complete shape i (scan_parts [] entry.scan) && list_all is_down entry.shields)
        ≡ (is_some (cond b (Some (scan_parts entry.retired entry.scan)) None) && is_complete shape i
        (unwrap_or (cond b (Some (scan_parts entry.retired entry.scan)) None) no_scan) && list_all is_down
        entry.shields)
    pick true = refl
    pick false = refl

pub give_enabled : (state : State) (i : ℕ) → is_enabled state (step.Give i) ≡ true
    → (i < state.shape.seats) × (is_some (seat_at state i).scan ≡ true)
give_enabled state i enabled =
    let a = is_seat state i in
    let s = is_scanning (seat_at state i) in
    let c = is_complete state.shape i (scan_of (seat_at state i)) in
    let p3 = and_parts (a && s && c) (list_all is_down (seat_at state i).shields) enabled in
    let p1 = and_parts a s (and_parts (a && s) c p3.0).0 in
    (ltb-true i state.shape.seats p1.0, p1.1)

given-shown : (epoch : ℕ) (entry : SeatData) → entry.scan.is_open ≡ true
    → shown_seat (given_entry epoch entry) ≡ after_give epoch (shown_seat entry)
given-shown epoch entry opened =
    let by : Scan → Seat = λ scan. record (shown_seat entry) {
      noted = epoch;
      fresh = union_of entry.fresh (given_slots (with_scan (shown_seat entry) scan));
      retired = slots_without entry.retired (given_slots (with_scan (shown_seat entry) scan));
      scan = None;
    } in
    ap by (sym (open-scan_of entry opened))

pub give_done : (core : Inside) (state : State) (i epoch : ℕ) (entry new : SeatData) → IsCore core
    → shown_state core ≡ state
    → is_enabled state (step.Give i) ≡ true → epoch ≡ core.epoch → entry ≡ get_or core.seats.items i entry
    → new ≡ given_entry epoch entry
    → IsCore (written core i new) × (shown_state (written core i new) ≡ (next state (step.Give i)).1)
give_done core state i epoch entry new held same enabled is_epoch read made =
    let parts = give_enabled state i enabled in
    let known = seat_known core state i entry held same parts.0 read in
    let opened =
    open_scan entry (ap (λ seat. is_some seat.scan) (sym known.0)
    ∙ (ap (λ z. is_some (seat_at z i).scan) same ∙ parts.1)) in
    step_done core state i entry new (step.Give i) held same enabled
    (subst (HasRoom core.shape) (sym made)
    (same_room core.shape entry (given_entry epoch entry)
    (length-slots_without entry.retired (given_marks entry.retired entry.scan.kept)) refl refl refl refl known.1))
    (ap (λ seat. with_seat (shown_state core) i seat)
    (ap (λ e. after_give e (seat_at (shown_state core) i)) (sym is_epoch)
    ∙ (ap (after_give epoch) known.0 ∙ (sym (given-shown epoch entry opened) ∙ ap shown_seat (sym made)))))
