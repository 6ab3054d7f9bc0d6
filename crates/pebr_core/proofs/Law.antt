-- Every enabled step leads from a sound state to a sound state.
use Rattle.std.proofs.Common.{◌≡◌, ℕ, ◌+◌, Bool, true, false, not, ◌&&◌, Option, Some, None, cond, is_some, refl, sym}
use Rattle.std.proofs.Common.{ap, arith, eqb, ltb, unwrap_or}
use Rattle.std.specs.Prelude.{slice_set}
use Rattle.std.proofs.lemmas.Bool.{and_parts, eqb-true, eqb-false, ltb-true, not-true}
use Rattle.std.proofs.lemmas.Option.{none-some, same_Some}
use Rattle.pebr_core.specs.declared.kinds.Answer.{Answer}
use Rattle.pebr_core.specs.declared.kinds.Step.{Step}
use Rattle.pebr_core.specs.declared.kinds.Step.TheVariants as step
use Rattle.pebr_core.specs.State.{State, has, seat_at, root_at, scan_of, found_at, has_scanned, is_out, is_down}
use Rattle.pebr_core.specs.State.{slot_count}
use Rattle.pebr_core.specs.Steps.{is_seat, is_root, is_place, is_slot, is_shielded, is_complete, after_replace}
use Rattle.pebr_core.specs.Steps.{is_scanning, is_enabled, after, answer_of, next, last_epoch, with_seat}
use Rattle.pebr_core.specs.Steps.{ejected_stance}
use Rattle.pebr_core.specs.Kept.{IsSound}
use Rattle.std.specs.List.{list_all}
use Rattle.pebr_core.specs.declared.kinds.ShieldAt.TheVariants as shield
use Rattle.pebr_core.proofs.ShieldSteps.{load_sound, shield_sound, check_sound}
use Rattle.pebr_core.proofs.SlotSteps.{write_sound, replace_sound, scan_sound}
use Rattle.pebr_core.proofs.GiveStep.{give_sound}
use Rattle.pebr_core.proofs.PinSteps.{out_from, note_sound, pin_sound, leave_sound, advance_sound, after_look_sound}
use Rattle.pebr_core.proofs.PinSteps.{eject_sound}

look_step_sound : (state : State) (i j : ℕ) → IsSound state → is_enabled state (step.Look i j) ≡ true
    → IsSound (after state (step.Look i j))
look_step_sound state i j sound h =
    let a = is_seat state i in
    let b = is_seat state j in
    let s = is_scanning (seat_at state i) in
    let n = not (eqb j i) in
    let w = not (has (scan_of (seat_at state i)).passed j) in
    let p4 = and_parts (a && b && s && n) w h in
    let p3 = and_parts (a && b && s) n p4.0 in
    let p2 = and_parts (a && b) s p3.0 in
    let p1 = and_parts a b p2.0 in
    after_look_sound state i j sound (ltb-true i state.shape.seats p1.0)
    (λ e. eqb-false j i (not-true (eqb j i) p3.1) (sym e)) p2.1

eject_step_sound : (state : State) (i j : ℕ) → IsSound state → is_enabled state (step.Eject i j) ≡ true
    → IsSound (after state (step.Eject i j))
eject_step_sound state i j sound h =
    let a = is_seat state i in
    let b = is_seat state j in
    let s = is_scanning (seat_at state i) in
    let f = is_some (found_at (scan_of (seat_at state i)) j) in
    let w = not (has (scan_of (seat_at state i)).passed j) in
    let p4 = and_parts (a && b && s && f) w h in
    let p3 = and_parts (a && b && s) f p4.0 in
    let p2 = and_parts (a && b) s p3.0 in
    let p1 = and_parts a b p2.0 in
    eject_sound state i j sound (ltb-true i state.shape.seats p1.0) (ltb-true j state.shape.seats p1.1) p2.1 p3.1
    (not-true (has (scan_of (seat_at state i)).passed j) p4.1)
    (with_seat state j
    (record (seat_at state j) {
      status = ejected_stance (unwrap_or (found_at (scan_of (seat_at state i)) j) 0)
          (seat_at state j).status;
    })) refl

advance_step_sound : (state : State) (i : ℕ) → IsSound state → is_enabled state (step.Advance i) ≡ true
    → IsSound (after state (step.Advance i))
advance_step_sound state i sound h =
    let noted = (seat_at state i).noted in
    let below = ltb-true noted last_epoch (and_parts (is_seat state i) (ltb noted last_epoch) h).1 in
    let pick : (b : Bool) → eqb state.epoch noted ≡ b
    → IsSound (cond b (record state { epoch = state.epoch + 1 }) state) =
    λ b. elim b as (λ v. eqb state.epoch noted ≡ v
    → IsSound (cond v (record state { epoch = state.epoch + 1 }) state)) [
      | true ↦ λ t. let same = eqb-true state.epoch noted t in advance_sound state sound (omega arith)
      | false ↦ λ _. sound
    ] in
    pick (eqb state.epoch noted) refl

down_set : (slot : ℕ) → shield.Down ≡ shield.Set slot → ⊥
down_set slot e = cc

down_valid : (slot : ℕ) → shield.Down ≡ shield.Valid slot → ⊥
down_valid slot e = cc

shield_step_sound : (state : State) (i place slot : ℕ) → IsSound state
    → is_enabled state (step.Shield i place slot) ≡ true → IsSound (after state (step.Shield i place slot))
shield_step_sound state i place slot sound h =
    let a = is_seat state i in
    let p = is_place state place in
    let s = is_slot state slot in
    let o = not (is_out (seat_at state i).status) in
    let p4 = and_parts (a && p && s && o) (has (seat_at state i).seen slot) h in
    let p3 = and_parts (a && p && s) o p4.0 in
    let p2 = and_parts (a && p) s p3.0 in
    let p1 = and_parts a p p2.0 in
    let below = ltb-true slot (slot_count state.shape) p2.1 in
    shield_sound state i place (shield.Set slot) sound (ltb-true i state.shape.seats p1.0)
    (λ other e. let same : slot ≡ other = set_slot slot other e in omega arith) (λ other e. set_valid slot other e)
  where
    set_slot : (m n : ℕ) → shield.Set m ≡ shield.Set n → m ≡ n
    set_slot m n e = cc

    set_valid : (m n : ℕ) → shield.Set m ≡ shield.Valid n → ⊥
    set_valid m n e = cc

replace_step_sound : (state : State) (i root old new : ℕ) → IsSound state
    → is_enabled state (step.Replace i root old new) ≡ true → IsSound (after state (step.Replace i root old new))
replace_step_sound state i root old new sound h =
    let a = is_seat state i in
    let r = is_root state root in
    let s = is_slot state old in
    let f = is_slot state new in
    let o = not (is_out (seat_at state i).status) in
    let v = is_shielded (seat_at state i) old in
    let p6 = and_parts (a && r && s && f && o && v) (has (seat_at state i).fresh new) h in
    let p5 = and_parts (a && r && s && f && o) v p6.0 in
    let p4 = and_parts (a && r && s && f) o p5.0 in
    let p3 = and_parts (a && r && s) f p4.0 in
    let p2 = and_parts (a && r) s p3.0 in
    let p1 = and_parts a r p2.0 in
    let changed : State =
    record (with_seat state i (after_replace old new (seat_at state i))) { roots = slice_set state.roots root new } in
    let pick : (b : Bool) → eqb (root_at state root) old ≡ b → IsSound (cond b changed state) =
    λ b. elim b as (λ v. eqb (root_at state root) old ≡ v → IsSound (cond v changed state)) [
      | true ↦ λ t. replace_sound state i root old new sound (ltb-true i state.shape.seats p1.0)
          (ltb-true root state.shape.roots p1.1)
          (ltb-true new (slot_count state.shape) p3.1) (not-true (is_out (seat_at state i).status) p4.1) p6.1
          (eqb-true (root_at state root) old t)
      | false ↦ λ _. sound
    ] in
    pick (eqb (root_at state root) old) refl

scan_step_sound : (state : State) (i j place : ℕ) → IsSound state → is_enabled state (step.Scan i j place) ≡ true
    → IsSound (after state (step.Scan i j place))
scan_step_sound state i j place sound h =
    let a = is_seat state i in
    let b = is_seat state j in
    let p = is_place state place in
    let s = is_scanning (seat_at state i) in
    let d = has (scan_of (seat_at state i)).passed j in
    let w = not (has_scanned (scan_of (seat_at state i)) j place) in
    let p5 = and_parts (a && b && p && s && d) w h in
    let p4 = and_parts (a && b && p && s) d p5.0 in
    let p3 = and_parts (a && b && p) s p4.0 in
    let p2 = and_parts (a && b) p p3.0 in
    let p1 = and_parts a b p2.0 in
    scan_sound state i j place sound (ltb-true i state.shape.seats p1.0) p3.1 p4.1

give_step_sound : (state : State) (i : ℕ) → IsSound state → is_enabled state (step.Give i) ≡ true
    → IsSound (after state (step.Give i))
give_step_sound state i sound h =
    let a = is_seat state i in
    let s = is_scanning (seat_at state i) in
    let c = is_complete state.shape i (scan_of (seat_at state i)) in
    let p3 = and_parts (a && s && c) (list_all is_down (seat_at state i).shields) h in
    let p2 = and_parts (a && s) c p3.0 in
    let p1 = and_parts a s p2.0 in
    give_sound state i sound (ltb-true i state.shape.seats p1.0) p1.1 p2.1 p3.1

pub step_sound : (state : State) (s : Step) → IsSound state → is_enabled state s ≡ true → IsSound (after state s)
step_sound state (step.Note i) sound h =
    let p = and_parts (is_seat state i) (is_out (seat_at state i).status) h in
    note_sound state i sound (ltb-true i state.shape.seats p.0) (out_from (seat_at state i).status p.1)
step_sound state (step.Pin i) sound h =
    let p = and_parts (is_seat state i) (is_out (seat_at state i).status) h in
    pin_sound state i sound (ltb-true i state.shape.seats p.0)
step_sound state (step.Leave i) sound h =
    let p = and_parts (is_seat state i) (not (is_out (seat_at state i).status)) h in
    leave_sound state i sound (ltb-true i state.shape.seats p.0)
step_sound state (step.Advance i) sound h = advance_step_sound state i sound h
step_sound state (step.Look i j) sound h = look_step_sound state i j sound h
step_sound state (step.Eject i j) sound h = eject_step_sound state i j sound h
step_sound state (step.Load i root) sound h =
    let p = and_parts (is_seat state i && is_root state root) (not (is_out (seat_at state i).status)) h in
    let q = and_parts (is_seat state i) (is_root state root) p.0 in
    load_sound state i root sound (ltb-true i state.shape.seats q.0) (ltb-true root state.shape.roots q.1)
step_sound state (step.Shield i place slot) sound h = shield_step_sound state i place slot sound h
step_sound state (step.Check i) sound h =
    let p = and_parts (is_seat state i) (not (is_out (seat_at state i).status)) h in
    check_sound state i sound (ltb-true i state.shape.seats p.0)
step_sound state (step.Unshield i place) sound h =
    let p = and_parts (is_seat state i) (is_place state place) h in
    shield_sound state i place shield.Down sound (ltb-true i state.shape.seats p.0) (λ slot e. absurd (down_set slot e))
    (λ slot e. down_valid slot e)
step_sound state (step.Read i slot word) sound h = sound
step_sound state (step.Write i slot word value) sound h = write_sound state slot word value sound
step_sound state (step.Replace i root old new) sound h = replace_step_sound state i root old new sound h
step_sound state (step.Scan i j place) sound h = scan_step_sound state i j place sound h
step_sound state (step.Give i) sound h = give_step_sound state i sound h

-- what comes of an enabled step, and of one that isn't
pub next_enabled : (state : State) (s : Step) → is_enabled state s ≡ true
    → next state s ≡ (Some (answer_of state s), after state s)
next_enabled state s h = ap (λ b. cond b (Some (answer_of state s), after state s) (None, state)) h

pub next_refused : (state : State) (s : Step) → is_enabled state s ≡ false → next state s ≡ (None, state)
next_refused state s h = ap (λ b. cond b (Some (answer_of state s), after state s) (None, state)) h

-- what the answer of a step tells
pub next_some : (state : State) (s : Step) (a : Answer) → Some a ≡ (next state s).0
    → (is_enabled state s ≡ true) × (a ≡ answer_of state s)
next_some state s a h = pick (is_enabled state s) h
  where
    pick : (b : Bool)
        → Some a ≡ (cond {A = Option Answer × State} b (Some (answer_of state s), after state s) (None, state)).0
        → (b ≡ true) × (a ≡ answer_of state s)
    pick true e = (refl, same_Some a (answer_of state s) e)
    pick false e = absurd (none-some a (sym e))

pub next_none : (state : State) (s : Step) → None ≡ (next state s).0 → is_enabled state s ≡ false
next_none state s h = pick (is_enabled state s) h
  where
    pick : (b : Bool)
        → None ≡ (cond {A = Option Answer × State} b (Some (answer_of state s), after state s) (None, state)).0
        → b ≡ false
    pick true e = absurd (none-some (answer_of state s) e)
    pick false e = refl
