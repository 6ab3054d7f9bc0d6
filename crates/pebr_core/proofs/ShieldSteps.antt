-- The steps Load, Shield, Check and Unshield lead from a sound state to a sound state.
use Rattle.std.proofs.Common.{◌≡◌, ◌≢◌, ℕ, ◌<◌, ◌+◌, ◌≤◌, ◌⊎◌, Bool, true, false, List, length, get_or, Some, cond}
use Rattle.std.proofs.Common.{refl, sym, ◌∙◌, ap, inl, inr, arith, length-set, count_by, eqb}
use Rattle.std.proofs.lemmas.Bool.{false≢true, cases_lt, eq-eqb}
use Rattle.std.proofs.lemmas.List.{length-map, get_or_past}
use Rattle.std.proofs.lemmas.List.Sums.{get_or-le-sum_by}
use Rattle.pebr_core.specs.declared.kinds.Shape.{Shape}
use Rattle.pebr_core.specs.declared.kinds.Stance.{Stance}
use Rattle.pebr_core.specs.declared.kinds.Stance.TheVariants as stance
use Rattle.pebr_core.specs.declared.kinds.Retired.TheVariants as retire
use Rattle.pebr_core.specs.declared.kinds.ShieldAt.{ShieldAt}
use Rattle.pebr_core.specs.declared.kinds.ShieldAt.TheVariants as shield
use Rattle.pebr_core.specs.State.{Scan, Seat, State, has, seat_at, root_at, shield_at, retired_at, is_retired}
use Rattle.pebr_core.specs.State.{slot_count, nobody}
use Rattle.pebr_core.specs.Steps.{with_seat, validated_shield, checked_shields, after_load, after_shield, after_check}
use Rattle.pebr_core.specs.Kept.{times_held, times_in, IsScanOf, HasSeenNoCandidate, IsSeatOfShape, IsSound}
use Rattle.pebr_core.proofs.Marks.{set_anywhere, get_or-map_default, has-either, has-still_not}
use Rattle.pebr_core.proofs.SeatChange.{Between, alone, between, seat_kept}

-- a scan that the changed seat is still at
pub same_scan : (i : ℕ) (old new : Seat) (scan : Scan) → new.status ≡ old.status → new.retired ≡ old.retired
    → IsScanOf i old scan → IsScanOf i new scan
same_scan i old new scan status retired h = record {
  out = status ∙ h.out;
  all_retired = λ slot. h.all_retired slot ∙ ap (λ r. is_retired (get_or r slot retire.No)) (sym retired);
  tagged = λ slot e. h.tagged slot (ap (λ r. get_or r slot retire.No) (sym retired) ∙ e);
  kept = h.kept;
  looked_others = h.looked_others;
  passed_others = h.passed_others;
  scanned_passed = h.scanned_passed;
}

-- a slot that a root holds is nowhere else

held_none : (fresh retired : Bool) → cond fresh 1 0 + cond retired 1 0 ≡ 0 → (fresh ≡ false) × (retired ≡ false)
held_none false false h = (refl, refl)
held_none false true h = absurd (omega arith)
held_none true false h = absurd (omega arith)
held_none true true h = absurd (omega arith)

pub held_at_most : (state : State) → IsSound state → (slot i : ℕ) → slot < slot_count state.shape
    → count_by (λ held. eqb held slot) state.roots + times_held slot (seat_at state i) ≤ 1
held_at_most state sound slot i inside = pick (cases_lt i (length state.seats))
  where
    once : times_in state slot ≡ 1
    once = sound.kept.safe.once slot inside

    pick : ((i < length state.seats) ⊎ (length state.seats ≤ i))
        → count_by (λ held. eqb held slot) state.roots + times_held slot (seat_at state i) ≤ 1
    pick (inl here) = omega (arith, get_or-le-sum_by (times_held slot) state.seats i nobody here, once)
    pick (inr past) = let none : times_held slot (seat_at state i) ≡ 0 =
        ap (times_held slot) (get_or_past state.seats i nobody past) in omega (arith, none, once)

pub root_slot : (state : State) → IsSound state → (root i : ℕ) → root < state.shape.roots
    → (has (seat_at state i).fresh (root_at state root) ≡ false)
    × (is_retired (retired_at (seat_at state i) (root_at state root)) ≡ false)
root_slot state sound root i inside =
    let slot = root_at state root in
    let most = held_at_most state sound slot i (sound.shape.slots root inside) in
    let one = get_or-le-sum_by (λ held. cond (eqb held slot) 1 0) state.roots root 0
    (omega (arith, sound.shape.roots)) in
    let here : ◌≡◌ {A = ℕ} (cond (eqb slot slot) 1 0) 1 = ap (λ b. cond b 1 0) (eq-eqb slot slot refl) in
    held_none (has (seat_at state i).fresh slot) (is_retired (retired_at (seat_at state i) slot))
    (omega (arith, most, one, here))

-- Load

load-shape : (shape : Shape) (slot : ℕ) (seat : Seat) → IsSeatOfShape shape seat
    → IsSeatOfShape shape (after_load slot seat)
load-shape shape slot seat h = record {
  seen = length-set seat.seen slot true ∙ h.seen;
  shields = h.shields;
  fresh = h.fresh;
  retired = h.retired;
  scan = h.scan;
  set = h.set;
  valid = h.valid;
}

-- a seat that has seen one slot more, which is neither fresh nor retired
load-between : (i : ℕ) (owner : Seat) (j : ℕ) (reader : Seat) (slot : ℕ) → has owner.fresh slot ≡ false
    → is_retired (retired_at owner slot) ≡ false
    → ((scan : Scan) → owner.scan ≡ Some scan → IsScanOf i owner scan)
    → Between owner j reader → Between owner j (after_load slot reader)
load-between i owner j reader slot not_fresh not_retired scans h = (
  λ s uses. elim uses [
    | inl valid ↦ h.0 s (inl valid)
    | inr seen ↦ elim (has-either reader.seen slot s seen.2) as (λ _. has owner.fresh s ≡ false) [
      | inl here ↦ ap (has owner.fresh) here ∙ not_fresh
      | inr before ↦ h.0 s (inr (seen.0, seen.1, before))
    ]
  ],
  λ s tag epoch at retired lt. has-still_not reader.seen slot s
      (λ here. let kept : is_retired (retired_at owner slot) ≡ true =
      ap (λ k. is_retired (retired_at owner k)) (sym here) ∙ ap is_retired retired in
      false≢true (sym not_retired ∙ kept))
      (h.1 s tag epoch at retired lt),
  λ scan e passed epoch at. no_candidate scan e (h.2 scan e passed epoch at),
  h.3,
  λ scan e found look waiting. (
    (h.4 scan e found look waiting).0,
    λ epoch at.
        elim ((h.4 scan e found look waiting).1 epoch at)
        [ inl same ↦ inl same | inr none ↦ inr (no_candidate scan e none) ],
  ),
)
  where
    no_candidate : (scan : Scan) → owner.scan ≡ Some scan → HasSeenNoCandidate scan reader
        → HasSeenNoCandidate scan (after_load slot reader)
    no_candidate scan e none s candidate = has-still_not reader.seen slot s
        (λ here. false≢true
        (sym not_retired
        ∙ (ap (λ k. is_retired (retired_at owner k)) (sym here) ∙ (sym ((scans scan e).all_retired s) ∙ candidate))))
        (none s candidate)

pub load_sound : (state : State) (i root : ℕ) → IsSound state → i < state.shape.seats → root < state.shape.roots
    → IsSound (with_seat state i (after_load (root_at state root) (seat_at state i)))
load_sound state i root sound inside is_root =
    let seat = seat_at state i in
    let slot = root_at state root in
    let new = after_load slot seat in
    let here = alone state sound.kept i in
    let second : (j : ℕ) → Between (seat_at state j) i new =
    λ j. let free = root_slot state sound root j is_root in
    load-between j (seat_at state j) i seat slot free.0 free.1 (sound.kept.scans j) (between state sound.kept j i) in
    seat_kept state i new sound inside
    (load-shape state.shape slot seat (sound.shape.each i inside))
    (λ _. refl)
    refl
    (here.0, here.1, here.2, λ scan e. same_scan i seat new scan refl refl (here.3 scan e))
    (second i)
    (λ j _. between state sound.kept i j)
    (λ j _. second j)

-- Shield and Unshield: a shield that isn't valid

shield-shape : (shape : Shape) (place : ℕ) (at : ShieldAt) (seat : Seat)
    → ((slot : ℕ) → at ≡ shield.Set slot → slot < slot_count shape) → ((slot : ℕ) → at ≢ shield.Valid slot)
    → IsSeatOfShape shape seat → IsSeatOfShape shape (after_shield place at seat)
shield-shape shape place at seat low not_valid h = record {
  seen = h.seen;
  shields = length-set seat.shields place at ∙ h.shields;
  fresh = h.fresh;
  retired = h.retired;
  scan = h.scan;
  set = λ p slot. set_anywhere (λ s. s ≡ shield.Set slot → slot < slot_count shape) seat.shields place at shield.Down p
      (λ _. low slot) (h.set p slot);
  valid = λ p slot. set_anywhere (λ s. s ≡ shield.Valid slot → slot < slot_count shape) seat.shields place at
      shield.Down p (λ _ e. absurd (not_valid slot e)) (h.valid p slot);
}

shield-between : (owner : Seat) (j : ℕ) (reader : Seat) (place : ℕ) (at : ShieldAt)
    → ((slot : ℕ) → at ≢ shield.Valid slot) → Between owner j reader → Between owner j (after_shield place at reader)
shield-between owner j reader place at not_valid h = (
  λ s uses. elim uses [
    | inl valid ↦ h.0 s (inl (valid.0, still_valid valid.0 s valid.1))
    | inr seen ↦ h.0 s
        (inr seen)
  ],
  h.1,
  h.2,
  λ scan e p s passed valid. h.3 scan e p s passed (still_valid p s valid),
  h.4,
)
  where
    still_valid : (p s : ℕ) → shield_at (after_shield place at reader) p ≡ shield.Valid s
        → shield_at reader p ≡ shield.Valid s
    still_valid p s = set_anywhere (λ x. x ≡ shield.Valid s → shield_at reader p ≡ shield.Valid s) reader.shields place
        at shield.Down p (λ _ e. absurd (not_valid s e)) (λ e. e)

pub shield_sound : (state : State) (i place : ℕ) (at : ShieldAt) → IsSound state → i < state.shape.seats
    → ((slot : ℕ) → at ≡ shield.Set slot → slot < slot_count state.shape) → ((slot : ℕ) → at ≢ shield.Valid slot)
    → IsSound (with_seat state i (after_shield place at (seat_at state i)))
shield_sound state i place at sound inside low not_valid =
    let seat = seat_at state i in
    let new = after_shield place at seat in
    let here = alone state sound.kept i in
    let second : (j : ℕ) → Between (seat_at state j) i new =
    λ j. shield-between (seat_at state j) i seat place at not_valid (between state sound.kept j i) in
    seat_kept state i new sound inside
    (shield-shape state.shape place at seat low not_valid (sound.shape.each i inside))
    (λ _. refl)
    refl
    (here.0, here.1, here.2, λ scan e. same_scan i seat new scan refl refl (here.3 scan e))
    (second i)
    (λ j _. between state sound.kept i j)
    (λ j _. second j)

-- Check

-- a shield that is valid after a check was valid, or it was set on a slot that the seat has seen
validated_shield-valid : (seen : List Bool) (at : ShieldAt) (slot : ℕ) → validated_shield seen at ≡ shield.Valid slot
    → (at ≡ shield.Valid slot) ⊎ ((at ≡ shield.Set slot) × (has seen slot ≡ true))
validated_shield-valid seen shield.Down slot e = absurd cc
validated_shield-valid seen (shield.Valid other) slot e = inl e
validated_shield-valid seen (shield.Set other) slot e = pick (has seen other) refl e
  where
    pick : (b : Bool) → has seen other ≡ b → cond b (shield.Valid other) (shield.Set other) ≡ shield.Valid slot
        → (shield.Set other ≡ shield.Valid slot) ⊎ ((shield.Set other ≡ shield.Set slot) × (has seen slot ≡ true))
    pick true seen_it k = let same : other ≡ slot = cc in
        inr (ap (λ n. shield.Set n) same, ap (has seen) (sym same) ∙ seen_it)
    pick false not_seen k = absurd cc

validated_shield-set : (seen : List Bool) (at : ShieldAt) (slot : ℕ) → validated_shield seen at ≡ shield.Set slot
    → at ≡ shield.Set slot
validated_shield-set seen shield.Down slot e = e
validated_shield-set seen (shield.Valid other) slot e = e
validated_shield-set seen (shield.Set other) slot e = pick (has seen other) e
  where
    pick : (b : Bool) → cond b (shield.Valid other) (shield.Set other) ≡ shield.Set slot
        → shield.Set other ≡ shield.Set slot
    pick true k = absurd cc
    pick false k = k

-- a shield of a seat after a check
checked_shields-valid : (seat : Seat) (place slot : ℕ) → shield_at (after_check seat) place ≡ shield.Valid slot
    → (shield_at seat place ≡ shield.Valid slot)
    ⊎ ((shield_at seat place ≡ shield.Set slot)
    × ((epoch : ℕ) × (seat.status ≡ stance.In epoch) × (has seat.seen slot ≡ true)))
checked_shields-valid seat place slot = pick seat.status
  where
    pick : (status : Stance) → get_or (checked_shields status seat.seen seat.shields) place shield.Down
        ≡ shield.Valid slot
        → (shield_at seat place ≡ shield.Valid slot)
        ⊎ ((shield_at seat place ≡ shield.Set slot)
        × ((epoch : ℕ) × (status ≡ stance.In epoch) × (has seat.seen slot ≡ true)))
    pick stance.Out e = inl e
    pick (stance.Ejected epoch) e = inl e
    pick (stance.In epoch) e =
        elim (validated_shield-valid seat.seen (shield_at seat place) slot
        (sym (get_or-map_default (validated_shield seat.seen) seat.shields place shield.Down) ∙ e)) [
          | inl old ↦ inl old
          | inr new ↦ inr (new.0, (epoch, refl, new.1))
        ]

checked_shields-set : (seat : Seat) (place slot : ℕ) → shield_at (after_check seat) place ≡ shield.Set slot
    → shield_at seat place ≡ shield.Set slot
checked_shields-set seat place slot = pick seat.status
  where
    pick : (status : Stance) → get_or (checked_shields status seat.seen seat.shields) place shield.Down
        ≡ shield.Set slot
        → shield_at seat place ≡ shield.Set slot
    pick stance.Out e = e
    pick (stance.Ejected epoch) e = e
    pick (stance.In epoch) e = validated_shield-set seat.seen (shield_at seat place) slot
        (sym (get_or-map_default (validated_shield seat.seen) seat.shields place shield.Down) ∙ e)

checked-length : (status : Stance) (seen : List Bool) (shields : List ShieldAt)
    → length (checked_shields status seen shields) ≡ length shields
checked-length stance.Out seen shields = refl
checked-length (stance.Ejected epoch) seen shields = refl
checked-length (stance.In epoch) seen shields = length-map shields (validated_shield seen)

check-shape : (shape : Shape) (seat : Seat) → IsSeatOfShape shape seat → IsSeatOfShape shape (after_check seat)
check-shape shape seat h = record {
  seen = h.seen;
  shields = checked-length seat.status seat.seen seat.shields ∙ h.shields;
  fresh = h.fresh;
  retired = h.retired;
  scan = h.scan;
  set = λ place slot e. h.set place slot (checked_shields-set seat place slot e);
  valid = λ place slot e. elim (checked_shields-valid seat place slot e)
      [ inl old ↦ h.valid place slot old | inr new ↦ h.set place slot new.0 ];
}

check-between : (owner : Seat) (j : ℕ) (reader : Seat) → Between owner j reader → Between owner j (after_check reader)
check-between owner j reader h = (
  λ s uses. elim uses [
    | inl valid ↦ elim (checked_shields-valid reader valid.0 s valid.1) as (λ _. has owner.fresh s ≡ false) [
      | inl old ↦ h.0 s (inl (valid.0, old))
      | inr new ↦ h.0 s (inr new.1)
    ]
    | inr seen ↦ h.0 s (inr seen)
  ],
  h.1,
  h.2,
  λ scan e place s passed valid candidate scanned. elim (checked_shields-valid reader place s valid) as
      (λ _. has scan.kept s ≡ true) [
        | inl old ↦ h.3 scan e place s passed old candidate scanned
        | inr new ↦ absurd (false≢true (sym (h.2 scan e passed new.1.0 new.1.1 s candidate) ∙ new.1.2))
      ],
  h.4,
)

pub check_sound : (state : State) (i : ℕ) → IsSound state → i < state.shape.seats
    → IsSound (with_seat state i (after_check (seat_at state i)))
check_sound state i sound inside =
    let seat = seat_at state i in
    let new = after_check seat in
    let here = alone state sound.kept i in
    let second : (j : ℕ) → Between (seat_at state j) i new =
    λ j. check-between (seat_at state j) i seat (between state sound.kept j i) in
    seat_kept state i new sound inside
    (check-shape state.shape seat (sound.shape.each i inside))
    (λ _. refl)
    refl
    (here.0, here.1, here.2, λ scan e. same_scan i seat new scan refl refl (here.3 scan e))
    (second i)
    (λ j _. between state sound.kept i j)
    (λ j _. second j)
