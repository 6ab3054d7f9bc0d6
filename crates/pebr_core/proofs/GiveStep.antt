-- The step Give leads from a sound state to a sound state, and gives no slot that a seat uses.
use Rattle.std.proofs.Common.{◌≡◌, ◌≢◌, ℕ, ◌<◌, ◌+◌, ◌≤◌, ◌⊎◌, zero, suc, Bool, true, false, not, ◌&&◌, ◌||◌, List, []}
use Rattle.std.proofs.Common.{◌∷◌, length, get_or, Some, cond, is_some, refl, sym, ◌∙◌, ap, subst, inl, inr, arith}
use Rattle.std.proofs.Common.{count_by, eqb}
use Rattle.std.specs.List.{list_all}
use Rattle.std.proofs.lemmas.Bool.{false≢true, cases_lt, cases_eq, cases_Bool, and_parts, ne_eqb, not-true}
use Rattle.std.proofs.lemmas.Option.{none-some}
use Rattle.std.proofs.lemmas.List.{get_or_past}
use Rattle.std.proofs.lemmas.List.Sums.{sum_by-cons}
use Rattle.pebr_core.specs.declared.kinds.Shape.{Shape}
use Rattle.pebr_core.specs.declared.kinds.Stance.TheVariants as stance
use Rattle.pebr_core.specs.declared.kinds.Retired.{Retired}
use Rattle.pebr_core.specs.declared.kinds.Retired.TheVariants as retire
use Rattle.pebr_core.specs.declared.kinds.ShieldAt.{ShieldAt}
use Rattle.pebr_core.specs.declared.kinds.ShieldAt.TheVariants as shield
use Rattle.pebr_core.specs.State.{Scan, Seat, State, has, seat_at, shield_at, retired_at, scan_of, has_scanned}
use Rattle.pebr_core.specs.State.{is_retired, is_down, slot_count, nobody, no_scan}
use Rattle.pebr_core.specs.Steps.{with_seat, union_of, slots_without, each_below, is_complete, given_slots, after_give}
use Rattle.pebr_core.specs.Kept.{Uses, IsTaggedUpTo, IsSound}
use Rattle.pebr_core.proofs.Marks.{has-without, has-union_of, has-inside, slots_without-at, length-without}
use Rattle.pebr_core.proofs.Marks.{length-union_of}
use Rattle.pebr_core.proofs.Marks.{length-slots_without, each_below-at, is_some-value}
use Rattle.pebr_core.proofs.SeatChange.{Between, alone, between, seat_kept}
use Rattle.pebr_core.proofs.ShieldSteps.{held_at_most}

-- a given slot is a candidate that isn't kept
given-parts : (seat : Seat) (slot : ℕ) → has (given_slots seat) slot ≡ true
    → (has (scan_of seat).candidates slot ≡ true) × (has (scan_of seat).kept slot ≡ false)
given-parts seat slot h =
    let parts = and_parts (has (scan_of seat).candidates slot) (not (has (scan_of seat).kept slot))
    (sym (has-without (scan_of seat).candidates (scan_of seat).kept slot) ∙ h) in
    (parts.0, not-true (has (scan_of seat).kept slot) parts.1)

-- a shield that is valid is one of the seat's shields
valid_inside : (seat : Seat) (place slot : ℕ) → shield_at seat place ≡ shield.Valid slot → place < length seat.shields
valid_inside seat place slot h = elim (cases_lt place (length seat.shields)) as (λ _. place < length seat.shields) [
  | inl inside ↦ inside
  | inr past ↦ absurd (down_valid (sym (get_or_past seat.shields place shield.Down past) ∙ h))
]
  where
    down_valid : shield.Down ≡ shield.Valid slot → ⊥
    down_valid e = cc

-- where all shields are down, none is valid
all_down : (shields : List ShieldAt) (place slot : ℕ) → list_all is_down shields ≡ true
    → get_or shields place shield.Down ≡ shield.Valid slot → ⊥
all_down [] place slot h e = cc
all_down (shield.Down ∷ shields) zero slot h e = cc
all_down (shield.Set other ∷ shields) zero slot h e = false≢true h
all_down (shield.Valid other ∷ shields) zero slot h e = false≢true h
all_down (shield.Down ∷ shields) (suc place) slot h e = all_down shields place slot h e
all_down (shield.Set other ∷ shields) (suc place) slot h e = false≢true h
all_down (shield.Valid other ∷ shields) (suc place) slot h e = false≢true h

or_right_true : (a b : Bool) → (a || b) ≡ true → a ≡ false → b ≡ true
or_right_true true b h e = absurd (false≢true (sym e))
or_right_true false b h e = h

-- what a complete scan has done
complete-passed : (shape : Shape) (i : ℕ) (scan : Scan) (j : ℕ) → is_complete shape i scan ≡ true → j < shape.seats
    → j ≢ i → has scan.passed j ≡ true
complete-passed shape i scan j h inside apart =
    (and_parts (has scan.passed j) (each_below shape.shields (λ place. has_scanned scan j place))
    (or_right_true (eqb j i) (has scan.passed j && each_below shape.shields (λ place. has_scanned scan j place))
    (each_below-at
    (λ k. (eqb k i) || (has scan.passed k && each_below shape.shields (λ place. has_scanned scan k place))) shape.seats
    j h inside)
    (ne_eqb j i apart))).0

complete-scanned : (shape : Shape) (i : ℕ) (scan : Scan) (j place : ℕ) → is_complete shape i scan ≡ true
    → j < shape.seats → j ≢ i → place < shape.shields → has_scanned scan j place ≡ true
complete-scanned shape i scan j place h inside apart low =
    each_below-at (λ p. has_scanned scan j p) shape.shields place
    (and_parts (has scan.passed j) (each_below shape.shields (λ p. has_scanned scan j p))
    (or_right_true (eqb j i) (has scan.passed j && each_below shape.shields (λ p. has_scanned scan j p))
    (each_below-at (λ k. (eqb k i) || (has scan.passed k && each_below shape.shields (λ p. has_scanned scan k p)))
    shape.seats j h inside)
    (ne_eqb j i apart))).1
    low

-- No given slot is used by any seat.
pub given_unused : (state : State) (i : ℕ) → IsSound state → i < state.shape.seats
    → is_some (seat_at state i).scan ≡ true
    → is_complete state.shape i (scan_of (seat_at state i)) ≡ true → list_all is_down (seat_at state i).shields ≡ true
    → (j slot : ℕ) → Uses (seat_at state j) slot → has (given_slots (seat_at state i)) slot ≡ false
given_unused state i sound inside scanning complete down j slot uses =
    pick (cases_Bool (has (given_slots owner) slot)) (cases_eq j i)
  where
    owner : Seat
    owner = seat_at state i

    scan : Scan
    scan = scan_of (seat_at state i)

    at : (seat_at state i).scan ≡ Some (scan_of (seat_at state i))
    at = is_some-value (seat_at state i).scan no_scan scanning

    -- a seat that uses a slot is one of the core's seats
    out_nobody : (j' : ℕ) → Uses (seat_at state j') slot → j' < state.shape.seats
    out_nobody j' u = elim (cases_lt j' (length state.seats)) as (λ _. j' < state.shape.seats) [
      | inl low ↦ omega (arith, sound.shape.seats)
      | inr past ↦ absurd (nobody_uses (subst (λ s. Uses s slot) (get_or_past state.seats j' nobody past) u))
    ]
      where
        nobody_uses : Uses nobody slot → ⊥
        nobody_uses (inl valid) = down_valid valid.1
          where
            down_valid : shield.Down ≡ shield.Valid slot → ⊥
            down_valid e = cc
        nobody_uses (inr seen) = false≢true seen.2

    contradiction : has (given_slots (seat_at state i)) slot ≡ true → j ≢ i → Uses (seat_at state j) slot → ⊥
    contradiction is apart u =
        let parts = given-parts (seat_at state i) slot is in
        let low = out_nobody j u in
        let passed = complete-passed state.shape i (scan_of (seat_at state i)) j complete low apart in
        elim u as (λ _. ⊥) [
          | inl valid ↦
              let read = complete-scanned state.shape i (scan_of (seat_at state i)) j valid.0 complete low apart
              (let below = valid_inside (seat_at state j) valid.0 slot valid.1 in
              let n = (sound.shape.each j low).shields in omega arith) in
              false≢true
              (sym parts.1 ∙ sound.kept.shielded i (scan_of (seat_at state i)) at j valid.0 slot passed valid.1 parts.0
              read)
          | inr seen ↦ false≢true
              (sym (sound.kept.passed i (scan_of (seat_at state i)) at j passed seen.0 seen.1 slot parts.0) ∙ seen.2)
        ]

    own : Uses (seat_at state i) slot → ⊥
    own (inl valid) = all_down (seat_at state i).shields valid.0 slot down valid.1
    own (inr seen) = out_in seen.0 (sym (sound.kept.scans i (scan_of (seat_at state i)) at).out ∙ seen.1)
      where
        out_in : (epoch : ℕ) → stance.Out ≡ stance.In epoch → ⊥
        out_in epoch e = cc

    pick : ((has (given_slots (seat_at state i)) slot ≡ true) ⊎ (has (given_slots (seat_at state i)) slot ≡ false))
        → ((j ≡ i) ⊎ (j ≡ i → ⊥)) → has (given_slots (seat_at state i)) slot ≡ false
    pick (inr none) _ = none
    pick (inl is) (inl here) = absurd (own (subst (λ m. Uses (seat_at state m) slot) here uses))
    pick (inl is) (inr there) = absurd (contradiction is there uses)

-- counts

-- one set grows by what the other loses
moved : (fresh marks : List Bool) (rs : List Retired) → length fresh ≡ length marks → length rs ≡ length marks
    → ((s : ℕ) → has marks s ≡ true → (has fresh s ≡ false) × (is_retired (get_or rs s retire.No) ≡ true))
    → count_by (λ b. b) (union_of fresh marks) + count_by is_retired (slots_without rs marks)
    ≡ count_by (λ b. b) fresh + count_by is_retired rs
moved [] [] [] a b h = refl
moved [] [] (r ∷ rs) a b h = absurd (omega arith)
moved [] (m ∷ ms) rs a b h = absurd (omega arith)
moved (f ∷ fs) [] rs a b h = absurd (omega arith)
moved (f ∷ fs) (m ∷ ms) [] a b h = absurd (omega arith)
moved (f ∷ fs) (m ∷ ms) (r ∷ rs) a b h =
    let rest = moved fs ms rs (omega arith) (omega arith) (λ s. h (suc s)) in
    let head = here f m r (h zero) in
    let u = sum_by-cons (λ b. cond b 1 0) (f || m) (union_of fs ms) in
    let l = sum_by-cons (λ x. cond (is_retired x) 1 0) (cond m retire.No r) (slots_without rs ms) in
    let c = sum_by-cons (λ b. cond b 1 0) f fs in
    let d = sum_by-cons (λ x. cond (is_retired x) 1 0) r rs in
    omega (arith, rest, head, u, l, c, d)
  where
    here : (f m : Bool) (r : Retired) → (m ≡ true → (f ≡ false) × (is_retired r ≡ true))
        → cond (f || m) 1 0 + cond (is_retired (cond m retire.No r)) 1 0 ≡ cond f 1 0 + cond (is_retired r) 1 0
    here true true r k = absurd (false≢true (sym (k refl).0))
    here false true r k = sym (ap (λ b. 0 + cond b 1 0) (k refl).1)
    here true false r k = refl
    here false false r k = refl

-- each slot is held as often as before
times_moved : (fresh mark : Bool) (r : Retired) → (mark ≡ true → (fresh ≡ false) × (is_retired r ≡ true))
    → cond (fresh || mark) 1 0 + cond (is_retired (cond mark retire.No r)) 1 0
    ≡ cond fresh 1 0 + cond (is_retired r) 1 0
times_moved true true r k = absurd (false≢true (sym (k refl).0))
times_moved false true r k = sym (ap (λ b. 0 + cond b 1 0) (k refl).1)
times_moved true false r k = refl
times_moved false false r k = refl

-- a released slot has no tag, and any other is as it was
slots_without-tagged : (rs : List Retired) (marks : List Bool) (s tag : ℕ)
    → get_or (slots_without rs marks) s retire.No ≡ retire.Tagged tag → get_or rs s retire.No ≡ retire.Tagged tag
slots_without-tagged rs marks s tag h = pick (has marks s) (sym (slots_without-at rs marks s) ∙ h)
  where
    pick : (b : Bool) → cond b retire.No (get_or rs s retire.No) ≡ retire.Tagged tag
        → get_or rs s retire.No ≡ retire.Tagged tag
    pick true e = absurd cc
    pick false e = e

slots_without-bound : (most : ℕ) (rs : List Retired) (marks : List Bool) (s : ℕ)
    → IsTaggedUpTo most (get_or rs s retire.No)
    → IsTaggedUpTo most (get_or (slots_without rs marks) s retire.No)
slots_without-bound most rs marks s h = subst (IsTaggedUpTo most) (sym (slots_without-at rs marks s))
    (pick (has marks s))
  where
    pick : (b : Bool) → IsTaggedUpTo most (cond b retire.No (get_or rs s retire.No))
    pick true = tt
    pick false = h

or_false : (a b : Bool) → a ≡ false → b ≡ false → (a || b) ≡ false
or_false a b h k = ap (λ x. x || b) h ∙ k

give-between : (epoch : ℕ) (owner : Seat) (j : ℕ) (reader : Seat)
    → ((slot : ℕ) → Uses reader slot → has (given_slots owner) slot ≡ false) → Between owner j reader
    → Between (after_give epoch owner) j reader
give-between epoch owner j reader free h = (
  λ s uses. has-union_of owner.fresh (given_slots owner) s
      ∙ or_false (has owner.fresh s) (has (given_slots owner) s) (h.0 s uses) (free s uses),
  λ s tag e at retired. h.1 s tag e at (slots_without-tagged owner.retired (given_slots owner) s tag retired),
  λ scan e. absurd (none-some scan e),
  λ scan e. absurd (none-some scan e),
  λ scan e. absurd (none-some scan e),
)

pub give_sound : (state : State) (i : ℕ) → IsSound state → i < state.shape.seats → is_some (seat_at state i).scan ≡ true
    → is_complete state.shape i (scan_of (seat_at state i)) ≡ true → list_all is_down (seat_at state i).shields ≡ true
    → IsSound (with_seat state i (after_give state.epoch (seat_at state i)))
give_sound state i sound inside scanning complete down =
    let seat = seat_at state i in
    let scan = scan_of seat in
    let at : seat.scan ≡ Some scan = is_some-value seat.scan no_scan scanning in
    let own = sound.kept.scans i scan at in
    let fits = sound.shape.each i inside in
    let scan_fits = fits.scan scan at in
    let marks = given_slots seat in
    let new = after_give state.epoch seat in
    let here = alone state sound.kept i in
    let marks_length : length marks ≡ slot_count state.shape =
    length-without scan.candidates scan.kept ∙ scan_fits.candidates in
    let free : (j slot : ℕ) → Uses (seat_at state j) slot → has marks slot ≡ false =
    given_unused state i sound inside scanning complete down in
    let first : (j : ℕ) → Between new j (seat_at state j) =
    λ j. give-between state.epoch seat j (seat_at state j) (free j) (between state sound.kept i j) in
    let apart : (slot : ℕ) → has marks slot ≡ true
    → (has seat.fresh slot ≡ false) × (is_retired (retired_at seat slot) ≡ true) =
    λ slot is.
    let retired : is_retired (retired_at seat slot) ≡ true =
    sym (own.all_retired slot) ∙ (given-parts seat slot is).0 in
    let low : slot < slot_count state.shape = let l = has-inside marks slot is in omega (arith, marks_length) in (
      alone_retired (has seat.fresh slot) (is_retired (retired_at seat slot))
          (count_by (λ held. eqb held slot) state.roots) retired (held_at_most state sound slot i low),
      retired,
    ) in
    seat_kept state i new sound inside
    (record {
      seen = fits.seen;
      shields = fits.shields;
      fresh = length-union_of seat.fresh marks (fits.fresh ∙ sym marks_length) ∙ fits.fresh;
      retired = length-slots_without seat.retired marks ∙ fits.retired;
      scan = λ s e. absurd (none-some s e);
      set = fits.set;
      valid = fits.valid;
    })
    (λ slot. ap (λ b. cond b 1 0 + cond (is_retired (retired_at new slot)) 1 0) (has-union_of seat.fresh marks slot)
    ∙ (ap (λ r. cond (has seat.fresh slot || has marks slot) 1 0 + cond (is_retired r) 1 0)
    (slots_without-at seat.retired marks slot)
    ∙ times_moved (has seat.fresh slot) (has marks slot) (retired_at seat slot) (apart slot)))
    (moved seat.fresh marks seat.retired (fits.fresh ∙ sym marks_length) (fits.retired ∙ sym marks_length) apart) (
      low_epoch state.epoch,
      here.1,
      λ s. slots_without-bound state.epoch seat.retired marks s (here.2 s),
      λ s e. absurd
          (none-some s e),
    )
    (first i)
    (λ j _. first j)
    (λ j _. between state sound.kept j i)
  where
    low_epoch : (n : ℕ) → n ≤ n
    low_epoch n = omega arith

    alone_retired : (fresh retired : Bool) (roots : ℕ) → retired ≡ true
        → roots + (cond fresh 1 0 + cond retired 1 0) ≤ 1 → fresh ≡ false
    alone_retired false retired roots h low = refl
    alone_retired true true roots h low = absurd (omega arith)
    alone_retired true false roots h low = absurd (false≢true h)
