-- The steps Write, Replace and Scan lead from a sound state to a sound state.
use Rattle.std.proofs.Common.{◌≡◌, ℕ, ◌<◌, ◌+◌, ◌⊎◌, Bool, true, false, List, [], length, get_or, set, Option, Some}
use Rattle.std.proofs.Common.{None, cond, is_some, refl, sym, ◌∙◌, ap, subst, inl, inr, arith, length-set}
use Rattle.std.proofs.Common.{get_or-set_same, get_or-set_other, add-zero, eqb}
use Rattle.std.proofs.lemmas.Bool.{false≢true, cases_eq, eq-eqb, ne_eqb}
use Rattle.std.proofs.lemmas.List.Sums.{sum_by-set}
use Rattle.pebr_core.specs.declared.kinds.Shape.{Shape}
use Rattle.pebr_core.specs.declared.kinds.Stance.TheVariants as stance
use Rattle.pebr_core.specs.declared.kinds.Retired.{Retired}
use Rattle.pebr_core.specs.declared.kinds.Retired.TheVariants as retire
use Rattle.pebr_core.specs.State.{Scan, Seat, State, has, seat_at, root_at, shield_at, retired_at, scan_of, has_scanned}
use Rattle.pebr_core.specs.State.{slot_under, is_retired, is_out, slot_count, slots_per_seat, nobody, no_scan}
use Rattle.pebr_core.specs.Steps.{with_seat, with_scan, with_scanned, with_kept, is_above_tags, after_replace}
use Rattle.pebr_core.specs.Steps.{after_scan}
use Rattle.pebr_core.specs.Kept.{times_held, IsTaggedUpTo, IsScanOf, PassedHasSeenNone, ScannedIsKept, LookedIsOlder}
use Rattle.pebr_core.specs.Kept.{held_count, IsScanOfShape, IsSeatOfShape, IsSound}
use Rattle.pebr_core.proofs.Marks.{set_anywhere, has-either, has-added, has-here, has-removed, has-inside, at_some}
use Rattle.pebr_core.proofs.Marks.{is_some-value}
use Rattle.pebr_core.proofs.SeatChange.{Alone, Between, alone, between, kept_from, seat_changed, seat_kept}
use Rattle.pebr_core.proofs.ShieldSteps.{root_slot}

-- Write

pub write_sound : (state : State) (slot word value : ℕ) → IsSound state
    → IsSound (record state { words = set state.words slot (set (get_or state.words slot []) word value) })
write_sound state slot word value sound =
    let k = sound.kept in
    let new = set (get_or state.words slot []) word value in
    record {
      shape = record {
        roots = sound.shape.roots;
        slots = sound.shape.slots;
        words = length-set state.words slot new ∙ sound.shape.words;
        width = λ s inside. set_anywhere (λ row. length row ≡ state.shape.width) state.words slot new [] s
            (λ here. length-set (get_or state.words slot []) word value
            ∙ (ap (λ n. length (get_or state.words n [])) (sym here) ∙ sound.shape.width s inside))
            (sound.shape.width s inside);
        seats = sound.shape.seats;
        each = sound.shape.each;
      };
      kept = record {
        safe = record { unused = k.safe.unused; once = k.safe.once };
        epochs = record {
          epoch = k.epochs.epoch;
          noted = k.epochs.noted;
          pinned = k.epochs.pinned;
          tagged =
              k.epochs.tagged;
        };
        older = k.older;
        scans = k.scans;
        passed = k.passed;
        shielded = k.shielded;
        looked = k.looked;
      };
      holding = sound.holding;
    }

-- Replace: the root's slot is retired, and a fresh one takes its place

replace-shape : (shape : Shape) (old new : ℕ) (seat : Seat) → IsSeatOfShape shape seat
    → IsSeatOfShape shape (after_replace old new seat)
replace-shape shape old new seat h = record {
  seen = h.seen;
  shields = h.shields;
  fresh = length-set seat.fresh new false ∙ h.fresh;
  retired = length-set seat.retired old retire.Untagged ∙ h.retired;
  scan = h.scan;
  set = h.set;
  valid = h.valid;
}

-- one fresh slot less
fresh_less : (marks : List Bool) (new slot : ℕ) → has marks new ≡ true
    → cond (has (set marks new false) slot) 1 0 + cond (eqb new slot) 1 0 ≡ cond (has marks slot) 1 0
fresh_less marks new slot is_fresh = pick (cases_eq slot new)
  where
    pick : ((slot ≡ new) ⊎ (slot ≡ new → ⊥))
        → cond (has (set marks new false) slot) 1 0 + cond (eqb new slot) 1 0 ≡ cond (has marks slot) 1 0
    pick (inl e) =
        let gone : has (set marks new false) slot ≡ false =
        ap (has (set marks new false)) e ∙ get_or-set_same marks new false false (has-inside marks new is_fresh) in
        let same : eqb new slot ≡ true = eq-eqb new slot (sym e) in
        let was : has marks slot ≡ true = ap (has marks) e ∙ is_fresh in
        ap (λ b. cond b 1 0 + cond (eqb new slot) 1 0) gone
        ∙ (ap (λ b. 0 + cond b 1 0) same ∙ ap (λ b. cond b 1 0) (sym was))
    pick (inr n) =
        ap (λ b. cond b 1 0 + cond (eqb new slot) 1 0) (get_or-set_other marks new slot false false n)
        ∙ (ap (λ b. cond (has marks slot) 1 0 + cond b 1 0) (ne_eqb new slot (λ e. n (sym e)))
        ∙ add-zero (cond (has marks slot) 1 0))

-- one retired slot more
retired_more : (rs : List Retired) (old slot : ℕ) → old < length rs → is_retired (get_or rs old retire.No) ≡ false
    → cond (is_retired (get_or (set rs old retire.Untagged) slot retire.No)) 1 0
    ≡ cond (is_retired (get_or rs slot retire.No)) 1 0 + cond (eqb old slot) 1 0
retired_more rs old slot inside not_retired = pick (cases_eq slot old)
  where
    pick : ((slot ≡ old) ⊎ (slot ≡ old → ⊥))
        → cond (is_retired (get_or (set rs old retire.Untagged) slot retire.No)) 1 0
        ≡ cond (is_retired (get_or rs slot retire.No)) 1 0 + cond (eqb old slot) 1 0
    pick (inl e) =
        let now : get_or (set rs old retire.Untagged) slot retire.No ≡ retire.Untagged =
        ap (λ n. get_or (set rs old retire.Untagged) n retire.No) e
        ∙ get_or-set_same rs old retire.Untagged retire.No inside in
        let same : eqb old slot ≡ true = eq-eqb old slot (sym e) in
        let was : is_retired (get_or rs slot retire.No) ≡ false =
        ap (λ n. is_retired (get_or rs n retire.No)) e ∙ not_retired in
        ap (λ r. cond (is_retired r) 1 0) now ∙ sym
        (ap (λ b. cond b 1 0 + cond (eqb old slot) 1 0) was ∙ ap (λ b. 0 + cond b 1 0) same)
    pick (inr n) =
        ap (λ r. cond (is_retired r) 1 0) (get_or-set_other rs old slot retire.Untagged retire.No n)
        ∙ sym (ap (λ b. cond (is_retired (get_or rs slot retire.No)) 1 0 + cond b 1 0)
        (ne_eqb old slot (λ e. n (sym e))) ∙ add-zero (cond (is_retired (get_or rs slot retire.No)) 1 0))

-- what the change of the root takes and adds is what the change of the seat adds and takes
replace-held : (seat : Seat) (old new slot : ℕ) → old < length seat.retired → has seat.fresh new ≡ true
    → is_retired (retired_at seat old) ≡ false
    → cond (eqb new slot) 1 0 + times_held slot (after_replace old new seat)
    ≡ cond (eqb old slot) 1 0 + times_held slot seat
replace-held seat old new slot inside is_fresh not_retired =
    combine (cond (eqb new slot) 1 0) (cond (has (set seat.fresh new false) slot) 1 0)
    (cond (is_retired (get_or (set seat.retired old retire.Untagged) slot retire.No)) 1 0)
    (cond (eqb old slot) 1 0) (cond (has seat.fresh slot) 1 0) (cond (is_retired (retired_at seat slot)) 1 0)
    (fresh_less seat.fresh new slot is_fresh) (retired_more seat.retired old slot inside not_retired)
  where
    combine : (n f' r' o f r : ℕ) → f' + n ≡ f → r' ≡ r + o → n + (f' + r') ≡ o + (f + r)
    combine n f' r' o f r a b = omega arith

replace-count : (seat : Seat) (old new : ℕ) → old < length seat.retired → has seat.fresh new ≡ true
    → is_retired (retired_at seat old) ≡ false → held_count (after_replace old new seat) ≡ held_count seat
replace-count seat old new inside is_fresh not_retired =
    let fresh = sum_by-set (λ b. cond b 1 0) seat.fresh new false false (has-inside seat.fresh new is_fresh) in
    let retired = sum_by-set (λ r. cond (is_retired r) 1 0) seat.retired old retire.Untagged retire.No inside in
    let was_fresh : ◌≡◌ {A = ℕ} (cond (has seat.fresh new) 1 0) 1 = ap (λ b. cond b 1 0) is_fresh in
    let was_kept : ◌≡◌ {A = ℕ} (cond (is_retired (retired_at seat old)) 1 0) 0 = ap (λ b. cond b 1 0) not_retired in
    omega (arith, fresh, retired, was_fresh, was_kept)

replace-between : (i : ℕ) (owner : Seat) (j : ℕ) (reader : Seat) (old new : ℕ) → is_out owner.status ≡ false
    → ((scan : Scan) → owner.scan ≡ Some scan → IsScanOf i owner scan)
    → Between owner j reader → Between (after_replace old new owner) j reader
replace-between i owner j reader old new engaged scans h = (
  λ s uses. has-removed owner.fresh new s (h.0 s uses),
  λ s tag epoch at retired. h.1 s tag epoch at (still_tagged s tag retired),
  λ scan e. absurd (no_scan scan e),
  λ scan e. absurd (no_scan scan e),
  λ scan e. absurd (no_scan scan e),
)
  where
    no_scan : (scan : Scan) → owner.scan ≡ Some scan → ⊥
    no_scan scan e = false≢true (sym engaged ∙ ap is_out (scans scan e).out)

    still_tagged : (s tag : ℕ) → retired_at (after_replace old new owner) s ≡ retire.Tagged tag
        → retired_at owner s ≡ retire.Tagged tag
    still_tagged s tag = set_anywhere (λ r. r ≡ retire.Tagged tag → retired_at owner s ≡ retire.Tagged tag)
        owner.retired old retire.Untagged retire.No s (λ _ e. absurd (untagged tag e)) (λ e. e)
      where
        untagged : (t : ℕ) → retire.Untagged ≡ retire.Tagged t → ⊥
        untagged t e = cc

pub replace_sound : (state : State) (i root old new : ℕ) → IsSound state → i < state.shape.seats
    → root < state.shape.roots → new < slot_count state.shape
    → is_out (seat_at state i).status ≡ false → has (seat_at state i).fresh new ≡ true → root_at state root ≡ old
    → IsSound
    (record (with_seat state i (after_replace old new (seat_at state i))) { roots = set state.roots root new })
replace_sound state i root old new sound inside is_root new_slot engaged is_fresh at_root =
    let seat = seat_at state i in
    let changed = after_replace old new seat in
    let fits = sound.shape.each i inside in
    let in_list : i < length state.seats = omega (arith, sound.shape.seats) in
    let in_roots : root < length state.roots = omega (arith, sound.shape.roots) in
    let old_slot : old < slot_count state.shape = let low = sound.shape.slots root is_root in omega (arith, at_root) in
    let old_inside : old < length seat.retired = omega (arith, fits.retired) in
    let not_retired : is_retired (retired_at seat old) ≡ false =
    ap (λ n. is_retired (retired_at seat n)) (sym at_root) ∙ (root_slot state sound root i is_root).1 in
    let here = alone state sound.kept i in
    let first : (j : ℕ) → Between changed j (seat_at state j) =
    λ j. replace-between i seat j (seat_at state j) old new engaged (sound.kept.scans i)
    (between state sound.kept i j) in
    let one : Alone state.epoch i changed = (
      here.0,
      here.1,
      λ s. set_anywhere (IsTaggedUpTo state.epoch) seat.retired old retire.Untagged retire.No s (λ _. tt) (here.2 s),
      λ scan e. absurd (false≢true (sym engaged ∙ ap is_out (here.3 scan e).out)),
    ) in
    let next : State = record (with_seat state i changed) { roots = set state.roots root new } in
    record {
      shape = record {
        roots = length-set state.roots root new ∙ sound.shape.roots;
        slots = λ r lt. set_anywhere (λ s. s < slot_count state.shape) state.roots root new 0 r (λ _. new_slot)
            (sound.shape.slots r lt);
        words = sound.shape.words;
        width = sound.shape.width;
        seats = length-set state.seats i changed ∙ sound.shape.seats;
        each = λ j h. seat_changed (IsSeatOfShape state.shape) state i changed j in_list
            (λ _. replace-shape state.shape old new seat fits) (λ _. sound.shape.each j h);
      };
      kept = kept_from next sound.kept.epochs.epoch
          (λ slot h.
          let sums = sum_by-set (times_held slot) state.seats i changed nobody in_list in
          let roots = sum_by-set (λ held. cond (eqb held slot) 1 0) state.roots root new 0 in_roots in
          let before = sound.kept.safe.once slot h in
          let held = replace-held seat old new slot old_inside is_fresh not_retired in
          let was : ◌≡◌ {A = ℕ} (cond (eqb (root_at state root) slot) 1 0) (cond (eqb old slot) 1 0) =
          ap (λ n. cond (eqb n slot) 1 0) at_root in
          omega (arith, sums, roots, before, held, was))
          (λ j. seat_changed (Alone state.epoch j) state i changed j in_list
          (λ e. subst (λ k. Alone state.epoch k changed) (sym e) one)
          (λ _. alone state sound.kept j))
          (λ j k. seat_changed (λ owner. Between owner k (seat_at (with_seat state i changed) k)) state i changed j
          in_list
          (λ e. seat_changed (λ reader. Between changed k reader) state i changed k in_list
          (λ d. subst (λ m. Between changed m changed) (sym d) (first i))
          (λ _. first k))
          (λ n. seat_changed (λ reader. Between (seat_at state j) k reader) state i changed k in_list
          (λ d. subst (λ m. Between (seat_at state j) m changed) (sym d) (between state sound.kept j i))
          (λ _. between state sound.kept j k)));
      holding = λ j h. seat_changed (λ s. held_count s ≡ slots_per_seat state.shape) state i changed j in_list
          (λ e. replace-count seat old new old_inside is_fresh not_retired ∙ sound.holding i inside)
          (λ _. sound.holding j h);
    }

-- Scan: a shield that is read

-- the scan of a seat that read a shield of a passed seat
abbrev scanned : Scan → ℕ → ℕ → Option ℕ → Scan
scanned scan other place slot = with_kept (with_scanned scan other place) slot

-- what with_kept leaves, and what it keeps
kept-candidates : (scan : Scan) (slot : Option ℕ) → (with_kept scan slot).candidates ≡ scan.candidates
kept-candidates scan None = refl
kept-candidates scan (Some slot) = pick (has scan.candidates slot)
  where
    pick : (b : Bool) → (cond b (record scan { kept = set scan.kept slot true }) scan).candidates ≡ scan.candidates
    pick true = refl
    pick false = refl

kept-looked : (scan : Scan) (slot : Option ℕ) → (with_kept scan slot).looked ≡ scan.looked
kept-looked scan None = refl
kept-looked scan (Some slot) = pick (has scan.candidates slot)
  where
    pick : (b : Bool) → (cond b (record scan { kept = set scan.kept slot true }) scan).looked ≡ scan.looked
    pick true = refl
    pick false = refl

kept-passed : (scan : Scan) (slot : Option ℕ) → (with_kept scan slot).passed ≡ scan.passed
kept-passed scan None = refl
kept-passed scan (Some slot) = pick (has scan.candidates slot)
  where
    pick : (b : Bool) → (cond b (record scan { kept = set scan.kept slot true }) scan).passed ≡ scan.passed
    pick true = refl
    pick false = refl

kept-scanned : (scan : Scan) (slot : Option ℕ) → (with_kept scan slot).scanned ≡ scan.scanned
kept-scanned scan None = refl
kept-scanned scan (Some slot) = pick (has scan.candidates slot)
  where
    pick : (b : Bool) → (cond b (record scan { kept = set scan.kept slot true }) scan).scanned ≡ scan.scanned
    pick true = refl
    pick false = refl

kept-length : (scan : Scan) (slot : Option ℕ) → length (with_kept scan slot).kept ≡ length scan.kept
kept-length scan None = refl
kept-length scan (Some slot) = pick (has scan.candidates slot)
  where
    pick : (b : Bool) → length (cond b (record scan { kept = set scan.kept slot true }) scan).kept ≡ length scan.kept
    pick true = length-set scan.kept slot true
    pick false = refl

-- what is kept now was kept, or it is a candidate
kept-either : (scan : Scan) (slot : Option ℕ) (s : ℕ) → has (with_kept scan slot).kept s ≡ true
    → (has scan.kept s ≡ true) ⊎ (has scan.candidates s ≡ true)
kept-either scan None s h = inl h
kept-either scan (Some slot) s h = pick (has scan.candidates slot) refl h
  where
    pick : (b : Bool) → has scan.candidates slot ≡ b
        → has (cond b (record scan { kept = set scan.kept slot true }) scan).kept s ≡ true
        → (has scan.kept s ≡ true) ⊎ (has scan.candidates s ≡ true)
    pick true is k = elim (has-either scan.kept slot s k)
        [ inl here ↦ inr (ap (has scan.candidates) here ∙ is) | inr before ↦ inl before ]
    pick false is k = inl k

kept-still : (scan : Scan) (slot : Option ℕ) (s : ℕ) → has scan.kept s ≡ true → has (with_kept scan slot).kept s ≡ true
kept-still scan None s h = h
kept-still scan (Some slot) s h = pick (has scan.candidates slot)
  where
    pick : (b : Bool) → has (cond b (record scan { kept = set scan.kept slot true }) scan).kept s ≡ true
    pick true = has-added scan.kept slot s h
    pick false = h

-- a candidate that was found is kept
kept-found : (scan : Scan) (slot : ℕ) → has scan.candidates slot ≡ true → slot < length scan.kept
    → has (with_kept scan (Some slot)).kept slot ≡ true
kept-found scan slot is inside =
    ap (λ b. has (cond b (record scan { kept = set scan.kept slot true }) scan).kept slot) is
    ∙ has-here scan.kept slot inside

-- a shield that is read now is that one, or was read
scanned-either : (scan : Scan) (other place j p : ℕ) → has_scanned (with_scanned scan other place) j p ≡ true
    → ((j ≡ other) × (p ≡ place)) ⊎ (has_scanned scan j p ≡ true)
scanned-either scan other place j p =
    set_anywhere (λ row. has row p ≡ true → ((j ≡ other) × (p ≡ place)) ⊎ (has_scanned scan j p ≡ true)) scan.scanned
    other (set (get_or scan.scanned other []) place true) [] j
    (λ here h. elim (has-either (get_or scan.scanned other []) place p h) [
      | inl same ↦ inl (here, same)
      | inr before ↦ inr (ap (λ n. has (get_or scan.scanned n []) p) here ∙ before)
    ])
    (λ h. inr h)

scan-shape : (shape : Shape) (seat : Seat) (scan : Scan) (other place : ℕ) (slot : Option ℕ) → IsSeatOfShape shape seat
    → IsScanOfShape shape scan → IsSeatOfShape shape (with_scan seat (scanned scan other place slot))
scan-shape shape seat scan other place slot h k =
    let base = with_scanned scan other place in
    record {
      seen = h.seen;
      shields = h.shields;
      fresh = h.fresh;
      retired = h.retired;
      scan = λ new e. at_some (IsScanOfShape shape) (scanned scan other place slot) new e (record {
        candidates = ap (λ l. length l) (kept-candidates base slot) ∙ k.candidates;
        looked = ap (λ l. length l) (kept-looked base slot) ∙ k.looked;
        passed = ap (λ l. length l) (kept-passed base slot) ∙ k.passed;
        scanned = ap (λ l. length l) (kept-scanned base slot)
            ∙ (length-set scan.scanned other (set (get_or scan.scanned other []) place true) ∙ k.scanned);
        shields = λ j lt. ap (λ rows. length (get_or rows j [])) (kept-scanned base slot)
            ∙ set_anywhere (λ row. length row ≡ shape.shields) scan.scanned other
            (set (get_or scan.scanned other []) place true) [] j
            (λ here. length-set (get_or scan.scanned other []) place true
            ∙ (ap (λ n. length (get_or scan.scanned n [])) (sym here) ∙ k.shields j lt))
            (k.shields j lt);
        kept = kept-length base slot ∙ k.kept;
      });
      set = h.set;
      valid = h.valid;
    }

scan-own : (i : ℕ) (seat : Seat) (scan : Scan) (other place : ℕ) (slot : Option ℕ) → has scan.passed other ≡ true
    → IsScanOf i seat scan
    → IsScanOf i (with_scan seat (scanned scan other place slot)) (scanned scan other place slot)
scan-own i seat scan other place slot is_passed h =
    let base = with_scanned scan other place in
    record {
      out = h.out;
      all_retired = λ s. ap (λ c. has c s) (kept-candidates base slot) ∙ h.all_retired s;
      tagged = h.tagged;
      kept = λ s is. ap (λ c. has c s) (kept-candidates base slot)
          ∙ (elim (kept-either base slot s is) as (λ _. has scan.candidates s ≡ true)
          [ inl before ↦ h.kept s before | inr now ↦ now ]);
      looked_others = ap (λ l. get_or l i None) (kept-looked base slot) ∙ h.looked_others;
      passed_others = ap (λ p. has p i) (kept-passed base slot) ∙ h.passed_others;
      scanned_passed = λ j p is. ap (λ l. has l j) (kept-passed base slot)
          ∙ (elim (scanned-either scan other place j p
          (ap (λ rows. has (get_or rows j []) p) (sym (kept-scanned base slot)) ∙ is)) as
          (λ _. has scan.passed j ≡ true) [
            | inl here ↦ ap (has scan.passed) here.0 ∙ is_passed
            | inr before ↦ h.scanned_passed j p before
          ]);
    }

-- a valid shield that is read now on a candidate makes it kept
scan-between : (owner : Seat) (scan : Scan) (other place : ℕ) (slot : Option ℕ) (j : ℕ) (reader : Seat)
    → owner.scan ≡ Some scan
    → length scan.candidates ≡ length scan.kept
    → (j ≡ other → slot ≡ slot_under (shield_at reader place))
    → Between owner j reader → Between (with_scan owner (scanned scan other place slot)) j reader
scan-between owner scan other place slot j reader at lengths found h =
    let base = with_scanned scan other place in
    let candidates = kept-candidates base slot in
    let passed = kept-passed base slot in (
      h.0,
      h.1,
      λ new e. at_some (λ s. PassedHasSeenNone s j reader) (scanned scan other place slot) new e
          (λ is epoch status s candidate. h.2 scan at (ap (λ l. has l j) (sym passed) ∙ is) epoch status s
          (ap (λ c. has c s) (sym candidates) ∙ candidate)),
      λ new e. at_some (λ s. ScannedIsKept s j reader) (scanned scan other place slot) new e
          (λ p s is valid candidate read.
          let was : has scan.candidates s ≡ true = ap (λ c. has c s) (sym candidates) ∙ candidate in
          let read_base : has_scanned base j p ≡ true =
          ap (λ rows. has (get_or rows j []) p) (sym (kept-scanned base slot)) ∙ read in
          elim (scanned-either scan other place j p read_base) as (λ _. has (with_kept base slot).kept s ≡ true) [
            | inl here ↦
                let under : slot ≡ Some s = found here.0
                ∙ (ap (λ q. slot_under (shield_at reader q)) (sym here.1) ∙ ap slot_under valid) in
                ap (λ o. has (with_kept base o).kept s) under
                ∙ kept-found base s was (let low = has-inside scan.candidates s was in omega arith)
            | inr before ↦ kept-still base slot s
                (h.3 scan at p s (ap (λ l. has l j) (sym passed) ∙ is) valid was before)
          ]),
      λ new e. at_some (λ s. LookedIsOlder owner.retired s j reader) (scanned scan other place slot) new e
          (subst (λ c. (f : ℕ) → get_or (scanned scan other place slot).looked j None ≡ Some f
          → has (scanned scan other place slot).passed j ≡ false
          → (is_above_tags c owner.retired f ≡ false)
          × ((epoch : ℕ) → reader.status ≡ stance.In epoch
          → (epoch ≡ f) ⊎ ((s : ℕ) → has c s ≡ true → has reader.seen s ≡ false)))
          (sym candidates)
          (λ f look waiting. h.4 scan at f (ap (λ l. get_or l j None) (sym (kept-looked base slot)) ∙ look)
          (ap (λ l. has l j) (sym passed) ∙ waiting))),
    )

pub scan_sound : (state : State) (i j place : ℕ) → IsSound state → i < state.shape.seats
    → is_some (seat_at state i).scan ≡ true → has (scan_of (seat_at state i)).passed j ≡ true
    → IsSound
    (with_seat state i (after_scan j place (slot_under (shield_at (seat_at state j) place)) (seat_at state i)))
scan_sound state i j place sound inside scanning is_passed =
    let seat = seat_at state i in
    let scan = scan_of seat in
    let slot = slot_under (shield_at (seat_at state j) place) in
    let at : seat.scan ≡ Some scan = is_some-value seat.scan no_scan scanning in
    let new = with_scan seat (scanned scan j place slot) in
    let here = alone state sound.kept i in
    let own = here.3 scan at in
    let fits = (sound.shape.each i inside).scan scan at in
    let first : (k : ℕ) → Between new k (seat_at state k) =
    λ k. scan-between seat scan j place slot k (seat_at state k) at (fits.candidates ∙ sym fits.kept)
    (λ e. ap (λ m. slot_under (shield_at (seat_at state m) place)) (sym e))
    (between state sound.kept i k) in
    seat_kept state i new sound inside
    (scan-shape state.shape seat scan j place slot (sound.shape.each i inside) fits)
    (λ _. refl)
    refl (
      here.0,
      here.1,
      here.2,
      λ s e. at_some (IsScanOf i new) (scanned scan j place slot) s e
          (scan-own i seat scan j place slot is_passed own),
    )
    (first i)
    (λ k _. first k)
    (λ k _. between state sound.kept k i)
