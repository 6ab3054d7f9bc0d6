-- What a step leaves as it was.
use Rattle.std.proofs.Common.{◌≡◌, ◌≢◌, ℕ, ◌+◌, ◌⊎◌, Bool, true, false, List, [], get_or, set, cond, refl, sym, ◌∙◌, ap}
use Rattle.std.proofs.Common.{subst, inl, inr, ⊎_elim, eqb, get_or-set_other}
use Rattle.std.proofs.lemmas.Bool.{cases_eq, false≢true}
use Rattle.pebr_core.specs.declared.kinds.Stance.{Stance}
use Rattle.pebr_core.specs.declared.kinds.Stance.TheVariants as stance
use Rattle.pebr_core.specs.declared.kinds.ShieldAt.{ShieldAt}
use Rattle.pebr_core.specs.declared.kinds.ShieldAt.TheVariants as shield
use Rattle.pebr_core.specs.declared.kinds.Step.{Step}
use Rattle.pebr_core.specs.declared.kinds.Step.TheVariants as step
use Rattle.pebr_core.specs.State.{Seat, State, has, seat_at, root_at, shield_at, scan_of, nobody, slot_under}
use Rattle.pebr_core.specs.Steps.{after, with_seat, with_scan, with_passed, with_look, can_pass, epoch_of, found_epoch}
use Rattle.pebr_core.specs.Steps.{ejected_stance, is_in_at, empty_set_below, validated_shield, checked_shields}
use Rattle.pebr_core.specs.Steps.{is_enabled, after_note, after_pin}
use Rattle.pebr_core.specs.Steps.{after_leave, after_look, after_pass, after_load, after_shield, after_check}
use Rattle.pebr_core.specs.Steps.{after_replace, after_scan, after_give}
use Rattle.pebr_core.specs.Kept.{Uses}
use Rattle.pebr_core.specs.Frames.{seat_of, LeavesTheRest, UsesBeginAtLoad, LeavesShields}
use Rattle.pebr_core.proofs.Marks.{set_anywhere, has-empty_set_below, has-either, get_or-map_default}

there : (state : State) (i j : ℕ) (seat : Seat) → j ≢ i → seat_at (with_seat state i seat) j ≡ seat_at state j
there state i j seat apart = get_or-set_other state.seats i j seat nobody apart

pub enabled_same : (a b : State) (s : Step) → a.shape ≡ b.shape → seat_at a (seat_of s) ≡ seat_at b (seat_of s)
    → is_enabled a s ≡ is_enabled b s
enabled_same a b (step.Note i) shape seat = cc
enabled_same a b (step.Pin i) shape seat = cc
enabled_same a b (step.Leave i) shape seat = cc
enabled_same a b (step.Advance i) shape seat = cc
enabled_same a b (step.Look i j) shape seat = cc
enabled_same a b (step.Eject i j) shape seat = cc
enabled_same a b (step.Load i root) shape seat = cc
enabled_same a b (step.Shield i place slot) shape seat = cc
enabled_same a b (step.Check i) shape seat = cc
enabled_same a b (step.Unshield i place) shape seat = cc
enabled_same a b (step.Read i slot word) shape seat = cc
enabled_same a b (step.Write i slot word value) shape seat = cc
enabled_same a b (step.Replace i root old new) shape seat = cc
enabled_same a b (step.Scan i j place) shape seat = cc
enabled_same a b (step.Give i) shape seat = cc

-- a change of the seat that steps alone
own_change : (state : State) (s : Step) (seat : Seat) → LeavesTheRest state s (with_seat state (seat_of s) seat)
own_change state s seat = record {
  shape = refl;
  epoch = λ _. refl;
  seats = λ j apart _. there state (seat_of s) j seat apart;
  statuses = λ j apart. still j apart;
  roots = λ _ _. refl;
  words = λ _ _ _. refl;
}
  where
    still : (j : ℕ) → j ≢ seat_of s → seat_at (with_seat state (seat_of s) seat) j
        ≡ record (seat_at state j) { status = (seat_at (with_seat state (seat_of s) seat) j).status }
    still j apart =
        let same = there state (seat_of s) j seat apart in
        same ∙ ap (λ (x : Seat). record (seat_at state j) { status = x.status }) (sym same)

no_change : (state : State) (s : Step) → LeavesTheRest state s state
no_change state s =
    record {
      shape = refl;
      epoch = λ _. refl;
      seats = λ j _ _. refl;
      statuses = λ j _. refl;
      roots =
          λ _ _. refl;
      words = λ _ _ _. refl;
    }

-- another seat gets another status, and then the seat that steps changes
status_at : (state : State) (i j k : ℕ) (status : Stance) (seat : Seat) → k ≢ i
    → seat_at (with_seat (with_seat state j (record (seat_at state j) { status = status })) i seat) k
    ≡ record (seat_at state k) {
      status =
          (seat_at (with_seat (with_seat state j (record (seat_at state j) { status = status })) i seat) k).status;
    }
status_at state i j k status seat apart =
    let mid : State = with_seat state j (record (seat_at state j) { status = status }) in
    let same = there mid i k seat apart in
    let P : Seat → Type 0 = λ x. x ≡ record (seat_at state k) { status = x.status } in
    subst P (sym same) (set_anywhere P state.seats j (record (seat_at state j) { status = status }) nobody k
    (λ here. ap (λ n. record (seat_at state n) { status = status }) (sym here)) refl)

pub leaves_the_rest : (state : State) (s : Step) → LeavesTheRest state s (after state s)
leaves_the_rest state (step.Note i) = own_change state (step.Note i) _
leaves_the_rest state (step.Pin i) = own_change state (step.Pin i) _
leaves_the_rest state (step.Leave i) = own_change state (step.Leave i) _
leaves_the_rest state (step.Advance i) = pick (eqb state.epoch (seat_at state i).noted)
  where
    pick : (b : Bool) → LeavesTheRest state (step.Advance i) (cond b (record state { epoch = state.epoch + 1 }) state)
    pick true =
        record {
          shape = refl;
          epoch = λ other. absurd (other refl);
          seats = λ j _ _. refl;
          statuses =
              λ j _. refl;
          roots = λ _ _. refl;
          words = λ _ _ _. refl;
        }
    pick false = no_change state (step.Advance i)
leaves_the_rest state (step.Look i j) = own_change state (step.Look i j) _
leaves_the_rest state (step.Eject i j) =
    let status = ejected_stance (found_epoch (seat_at state i) j) (seat_at state j).status in
    let mid : State = with_seat state j (record (seat_at state j) { status = status }) in
    record {
      shape = refl;
      epoch = λ _. refl;
      seats = λ k apart other. there mid i k (after_pass j (seat_at mid i)) apart
          ∙ there state j k (record (seat_at state j) { status = status }) (λ e. other (ap (step.Eject i) (sym e)));
      statuses = λ k apart. status_at state i j k status (after_pass j (seat_at mid i)) apart;
      roots = λ _ _. refl;
      words = λ _ _ _. refl;
    }
leaves_the_rest state (step.Load i root) = own_change state (step.Load i root) _
leaves_the_rest state (step.Shield i place slot) = own_change state (step.Shield i place slot) _
leaves_the_rest state (step.Check i) = own_change state (step.Check i) _
leaves_the_rest state (step.Unshield i place) = own_change state (step.Unshield i place) _
leaves_the_rest state (step.Read i slot word) = no_change state (step.Read i slot word)
leaves_the_rest state (step.Write i slot word value) = record {
  shape = refl;
  epoch = λ _. refl;
  seats = λ j _ _. refl;
  statuses = λ j _. refl;
  roots = λ _ _. refl;
  words = λ s x other. written s x other (cases_eq s slot);
}
  where
    row : List ℕ
    row = get_or state.words slot []

    written : (s x : ℕ) → ((v : ℕ) → step.Write i slot word value ≢ step.Write i s x v) → ((s ≡ slot) ⊎ (s ≡ slot → ⊥))
        → get_or (get_or (set state.words slot (set row word value)) s []) x 0 ≡ get_or (get_or state.words s []) x 0
    written s x other (inr apart) = ap (λ l. get_or l x 0)
        (get_or-set_other state.words slot s (set row word value) [] apart)
    written s x other (inl here) = set_anywhere
        (λ l. get_or l x 0 ≡ get_or (get_or state.words s []) x 0) state.words slot (set row word value) [] s
        (λ _. ap (λ n. get_or (set (get_or state.words n []) word value) x 0) (sym here)
        ∙ get_or-set_other (get_or state.words s []) word x value 0
        (λ e. other value (ap (λ n. step.Write i n word value) (sym here) ∙ ap (λ n. step.Write i s n value) (sym e))))
        refl
leaves_the_rest state (step.Replace i root old new) = pick (eqb (root_at state root) old)
  where
    changed : State
    changed = record (with_seat state i (after_replace old new (seat_at state i))) { roots = set state.roots root new }

    pick : (b : Bool) → LeavesTheRest state (step.Replace i root old new)
        (cond b (record (with_seat state i (after_replace old new (seat_at state i))) {
          roots =
              set state.roots root new;
        }) state)
    pick false = no_change state (step.Replace i root old new)
    pick true = let own = own_change state (step.Replace i root old new) (after_replace old new (seat_at state i)) in
        record {
          shape = refl;
          epoch = λ _. refl;
          seats = own.seats;
          statuses = own.statuses;
          roots = λ r other. get_or-set_other state.roots root r new 0
              (λ e. other old new (ap (λ n. step.Replace i n old new) (sym e)));
          words = λ _ _ _. refl;
        }
leaves_the_rest state (step.Scan i j place) = own_change state (step.Scan i j place) _
leaves_the_rest state (step.Give i) = own_change state (step.Give i) _

pub leaves_shields : (state : State) (s : Step) → LeavesShields state s (after state s)
leaves_shields state s j place apart = ap (λ (x : Seat). shield_at x place) ((leaves_the_rest state s).statuses j apart)

-- uses

-- a seat that uses no more than it did
abbrev NoMore : Seat → Seat → Type 0
NoMore old new = (slot : ℕ) → Uses new slot → Uses old slot

own_uses : (state : State) (s : Step) (seat : Seat) → NoMore (seat_at state (seat_of s)) seat
    → UsesBeginAtLoad state s (with_seat state (seat_of s) seat)
own_uses state s seat less j slot = set_anywhere
    (λ (x : Seat). Uses x slot → Uses (seat_at state j) slot
    ⊎ ((root : ℕ) × (s ≡ step.Load j root) × (root_at state root ≡ slot)))
    state.seats (seat_of s) seat nobody j
    (λ here used. inl (subst (λ n. Uses (seat_at state n) slot) (sym here) (less slot used)))
    (λ used. inl used)

-- a seat with the same shields that has seen nothing
unseen : (old new : Seat) → new.shields ≡ old.shields → new.seen ≡ empty_set_below old.seen → NoMore old new
unseen old new shields seen slot (inl (place, valid)) =
    inl (place, ap (λ l. get_or l place shield.Down) (sym shields) ∙ valid)
unseen old new shields seen slot (inr (epoch, was_in, has_seen)) =
    absurd (false≢true (sym (has-empty_set_below old.seen slot) ∙ (ap (λ l. has l slot) (sym seen) ∙ has_seen)))

-- a seat with the same status, shields and seen slots
same_uses : (old new : Seat) → new.status ≡ old.status → new.shields ≡ old.shields → new.seen ≡ old.seen
    → NoMore old new
same_uses old new status shields seen slot (inl (place, valid)) =
    inl (place, ap (λ l. get_or l place shield.Down) (sym shields) ∙ valid)
same_uses old new status shields seen slot (inr (epoch, was_in, has_seen)) =
    inr (epoch, sym status ∙ was_in, ap (λ l. has l slot) (sym seen) ∙ has_seen)

-- a shield that isn't valid is set, or taken down
shield_uses : (place : ℕ) (at : ShieldAt) (seat : Seat) → ((slot : ℕ) → at ≢ shield.Valid slot)
    → NoMore seat (after_shield place at seat)
shield_uses place at seat invalid slot (inr in') = inr in'
shield_uses place at seat invalid slot (inl (k, valid)) =
    set_anywhere (λ x. x ≡ shield.Valid slot → Uses seat slot) seat.shields place at shield.Down k
    (λ _ e. absurd (invalid slot e)) (λ e. inl (k, e)) valid

-- a shield that has become valid stands on a slot that the seat, which is in, has seen
check_uses : (seat : Seat) → NoMore seat (after_check seat)
check_uses seat slot (inr in') = inr in'
check_uses seat slot (inl (place, valid)) = pick seat.status refl valid
  where
    pick : (status : Stance) → seat.status ≡ status
        → get_or (checked_shields status seat.seen seat.shields) place shield.Down ≡ shield.Valid slot → Uses seat slot
    pick stance.Out is e = inl (place, e)
    pick (stance.Ejected epoch) is e = inl (place, e)
    pick (stance.In epoch) is e = from (shield_at seat place) refl
        (sym (get_or-map_default (validated_shield seat.seen) seat.shields place shield.Down) ∙ e)
      where
        from : (at : ShieldAt) → shield_at seat place ≡ at → validated_shield seat.seen at ≡ shield.Valid slot
            → Uses seat slot
        from shield.Down was v = absurd (let e' : shield.Down ≡ shield.Valid slot = v in cc)
        from (shield.Valid other) was v = inl (place, was ∙ v)
        from (shield.Set other) was v = mark (has seat.seen other) refl v
          where
            mark : (b : Bool) → has seat.seen other ≡ b
                → cond b (shield.Valid other) (shield.Set other) ≡ shield.Valid slot → Uses seat slot
            mark false seen w = absurd (let e' : shield.Set other ≡ shield.Valid slot = w in cc)
            mark true seen w = let same : other ≡ slot = cc in inr (epoch, is, ap (has seat.seen) (sym same) ∙ seen)

look_uses : (other : ℕ) (b : Bool) (seat : Seat) (epoch : ℕ)
    → NoMore seat
    (cond b (with_scan seat (with_passed (scan_of seat) other)) (with_scan seat (with_look (scan_of seat) other epoch)))
look_uses other true seat epoch slot used = used
look_uses other false seat epoch slot used = used

-- after a load a seat uses what it used before, or the slot that was loaded
load_uses : (slot : ℕ) (seat : Seat) (used : ℕ) → Uses (after_load slot seat) used → Uses seat used ⊎ (slot ≡ used)
load_uses slot seat used (inl valid) = inl (inl valid)
load_uses slot seat used (inr (epoch, was_in, seen)) = ⊎_elim
    (λ (e : used ≡ slot). inr (sym e))
    (λ (e : has seat.seen used ≡ true). inl (inr (epoch, was_in, e)))
    (has-either seat.seen slot used seen)

eject_uses : (found : ℕ) (seat : Seat) → NoMore seat (record seat { status = ejected_stance found seat.status })
eject_uses found seat slot (inl valid) = inl valid
eject_uses found seat slot (inr (epoch, now, seen)) = inr (epoch, pick (is_in_at found seat.status) now, seen)
  where
    pick : (b : Bool) → cond b (stance.Ejected found) seat.status ≡ stance.In epoch → seat.status ≡ stance.In epoch
    pick true e = absurd cc
    pick false e = e

pub uses_begin : (state : State) (s : Step) → UsesBeginAtLoad state s (after state s)
uses_begin state (step.Note i) = own_uses state (step.Note i) (after_note state.shape state.epoch (seat_at state i))
    (λ slot used. used)
uses_begin state (step.Pin i) = own_uses state (step.Pin i) (after_pin (seat_at state i))
    (unseen (seat_at state i) (after_pin (seat_at state i)) refl refl)
uses_begin state (step.Leave i) = own_uses state (step.Leave i) (after_leave (seat_at state i))
    (unseen (seat_at state i) (after_leave (seat_at state i)) refl refl)
uses_begin state (step.Advance i) = pick (eqb state.epoch (seat_at state i).noted)
  where
    pick : (b : Bool) → UsesBeginAtLoad state (step.Advance i) (cond b (record state { epoch = state.epoch + 1 }) state)
    pick true = λ j slot used. inl used
    pick false = λ j slot used. inl used
uses_begin state (step.Look i j) = own_uses state (step.Look i j)
    (after_look j (seat_at state j).status (seat_at state i))
    (look_uses j (can_pass (scan_of (seat_at state i)).candidates (seat_at state i).retired (seat_at state j).status)
    (seat_at state i) (epoch_of (seat_at state j).status))
uses_begin state (step.Eject i j) = λ k slot used.
    let found = found_epoch (seat_at state i) j in
    let other : Seat = record (seat_at state j) { status = ejected_stance found (seat_at state j).status } in
    let mid : State = with_seat state j other in
    let in_mid : Uses (seat_at mid k) slot =
    set_anywhere (λ (x : Seat). Uses x slot → Uses (seat_at mid k) slot) mid.seats i
    (after_pass j (seat_at mid i)) nobody k
    (λ here u. subst (λ n. Uses (seat_at mid n) slot) (sym here) u) (λ u. u) used in
    inl (set_anywhere (λ (x : Seat). Uses x slot → Uses (seat_at state k) slot) state.seats j other nobody k
    (λ here u. subst (λ n. Uses (seat_at state n) slot) (sym here) (eject_uses found (seat_at state j) slot u))
    (λ u. u) in_mid)
uses_begin state (step.Load i root) = λ j slot. set_anywhere
    (λ (x : Seat). Uses x slot → Uses (seat_at state j) slot
    ⊎ ((r : ℕ) × (step.Load i root ≡ step.Load j r) × (root_at state r ≡ slot)))
    state.seats i (after_load (root_at state root) (seat_at state i)) nobody j
    (λ here used. ⊎_elim
    (λ (u : Uses (seat_at state i) slot). inl (subst (λ n. Uses (seat_at state n) slot) (sym here) u))
    (λ (e : root_at state root ≡ slot). inr (root, ap (λ n. step.Load n root) (sym here), e))
    (load_uses (root_at state root) (seat_at state i) slot used))
    (λ used. inl used)
uses_begin state (step.Shield i place slot) =
    own_uses state (step.Shield i place slot) (after_shield place (shield.Set slot) (seat_at state i))
    (shield_uses place (shield.Set slot) (seat_at state i) (λ s e. set_valid slot s e))
  where
    set_valid : (m n : ℕ) → shield.Set m ≡ shield.Valid n → ⊥
    set_valid m n e = cc
uses_begin state (step.Check i) = own_uses state (step.Check i) (after_check (seat_at state i))
    (check_uses (seat_at state i))
uses_begin state (step.Unshield i place) =
    own_uses state (step.Unshield i place) (after_shield place shield.Down (seat_at state i))
    (shield_uses place shield.Down (seat_at state i) (λ s e. down_valid s e))
  where
    down_valid : (n : ℕ) → shield.Down ≡ shield.Valid n → ⊥
    down_valid n e = cc
uses_begin state (step.Read i slot word) = λ j s used. inl used
uses_begin state (step.Write i slot word value) = λ j s used. inl used
uses_begin state (step.Replace i root old new) = pick (eqb (root_at state root) old)
  where
    pick : (b : Bool) → UsesBeginAtLoad state (step.Replace i root old new)
        (cond b (record (with_seat state i (after_replace old new (seat_at state i))) {
          roots =
              set state.roots root new;
        }) state)
    pick true = own_uses state (step.Replace i root old new) (after_replace old new (seat_at state i))
        (λ slot used. used)
    pick false = λ j slot used. inl used
uses_begin state (step.Scan i j place) =
    own_uses state (step.Scan i j place)
    (after_scan j place (slot_under (shield_at (seat_at state j) place)) (seat_at state i)) (λ slot used. used)
uses_begin state (step.Give i) = own_uses state (step.Give i) (after_give state.epoch (seat_at state i))
    (λ slot used. used)
