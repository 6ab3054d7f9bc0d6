-- How many slots a scan keeps, which tag a looked seat reaches, and that a fresh slot is alone.
use Rattle.std.proofs.Common.{◌≡◌, ◌≢◌, ℕ, ◌<◌, ◌+◌, ◌≤◌, ◌⊎◌, zero, suc, Bool, true, false, not, ◌&&◌, ◌||◌, List, []}
use Rattle.std.proofs.Common.{◌∷◌, length, get_or, set, replicate, Option, Some, None, cond, is_some, refl, sym, ◌∙◌}
use Rattle.std.proofs.Common.{ap, subst, inl, inr, arith, eqb, count_by, ltb, get_or-set_other, sum_by, unwrap_or}
use Rattle.std.specs.List.{list_all, list_any}
use Rattle.pebr_core.specs.declared.kinds.ShieldAt.{ShieldAt}
use Rattle.pebr_core.specs.declared.kinds.ShieldAt.TheVariants as shield
use Rattle.std.proofs.Common.{◌||◌}
use Rattle.pebr_core.specs.State.{is_valid_on}
use Rattle.std.proofs.lemmas.Bool.{false≢true, cases_lt, cases_eq, and_parts, eq-eqb, ltb-false, ltb-true}
use Rattle.std.proofs.lemmas.Option.{none-some}
use Rattle.std.proofs.lemmas.List.{get_or_past}
use Rattle.std.proofs.lemmas.List.Sums.{sum_by-cons, sum_by-set, get_or-le-sum_by}
use Rattle.pebr_core.specs.declared.kinds.Shape.{Shape}
use Rattle.pebr_core.specs.declared.kinds.Retired.{Retired}
use Rattle.pebr_core.specs.declared.kinds.Retired.TheVariants as retire
use Rattle.pebr_core.specs.declared.kinds.Step.TheVariants as step
use Rattle.pebr_core.specs.State.{Scan, Seat, State, has, seat_at, root_at, retired_at, scan_of, found_at, is_retired}
use Rattle.pebr_core.specs.State.{is_down, slot_count, nobody, no_scan, start_state}
use Rattle.pebr_core.specs.Steps.{is_above_tags, with_scanned, is_enabled, is_seat, is_scanning, is_complete, without}
use Rattle.pebr_core.specs.Steps.{union_of, slots_without, given_slots, after_scan, after_give}
use Rattle.pebr_core.specs.Kept.{times_held, IsSound}
use Rattle.pebr_core.specs.Frames.{IsFreshAlone, kept_count, fresh_count, retired_count}
use Rattle.pebr_core.proofs.Marks.{is_some-value, has-without, has-inside, length-without}
use Rattle.pebr_core.proofs.ShieldSteps.{held_at_most}
use Rattle.pebr_core.proofs.StartState.{start_sound}

count_mark : (mark : Bool) (marks : List Bool)
    → count_by (λ b. b) (mark ∷ marks) ≡ cond mark 1 0 + count_by (λ b. b) marks
count_mark mark marks = sum_by-cons (λ b. cond b 1 0) mark marks

pub count_none : (n : ℕ) → count_by (λ b. b) (replicate n false) ≡ 0
count_none zero = refl
count_none (suc n) = let h = count_none n in let a = count_mark false (replicate n false) in omega (arith, a, h)

count_one_more : (marks : List Bool) (i : ℕ) → count_by (λ b. b) (set marks i true) ≤ count_by (λ b. b) marks + 1
count_one_more [] i = omega arith
count_one_more (x ∷ xs) zero = let a = count_mark true xs in let b = count_mark x xs in omega (arith, a, b)
count_one_more (x ∷ xs) (suc i) = let h = count_one_more xs i in let a = count_mark x (set xs i true) in
    let b = count_mark x xs in omega (arith, h, a, b)

pub scan_keeps : (other place : ℕ) (slot : Option ℕ) (seat : Seat)
    → kept_count (after_scan other place slot seat) ≤ kept_count seat + 1
scan_keeps other place None seat = omega arith
scan_keeps other place (Some slot) seat = pick (has (with_scanned (scan_of seat) other place).candidates slot)
  where
    scan : Scan
    scan = with_scanned (scan_of seat) other place

    pick : (b : Bool) → count_by (λ mark. mark)
        (cond b (record (with_scanned (scan_of seat) other place) { kept = set (scan_of seat).kept slot true })
        (with_scanned (scan_of seat) other place)).kept ≤ count_by (λ mark. mark) (scan_of seat).kept + 1
    pick true = count_one_more (scan_of seat).kept slot
    pick false = omega arith

-- what a complete scan leaves and gives

module _ (state : State) (i epoch : ℕ) (sound : IsSound state) (enabled : is_enabled state (step.Give i) ≡ true) where
  abbrev owner : Seat
  owner = seat_at state i

  abbrev scan : Scan
  scan = scan_of (seat_at state i)

  scanning : is_some (seat_at state i).scan ≡ true
  scanning =
      let a = is_seat state i in
      let s = is_scanning owner in
      let c = is_complete state.shape i scan in
      (and_parts a s (and_parts (a && s) c (and_parts (a && s && c) (list_all is_down owner.shields) enabled).0).0).1

  at : (seat_at state i).scan ≡ Some (scan_of (seat_at state i))
  at = is_some-value (seat_at state i).scan no_scan scanning

  inside : i < state.shape.seats
  inside =
      let a = is_seat state i in
      let s = is_scanning owner in
      let c = is_complete state.shape i scan in
      ltb-true i state.shape.seats
      (and_parts a s (and_parts (a && s) c (and_parts (a && s && c) (list_all is_down owner.shields) enabled).0).0).0

  -- of the slots the kept ones stay
  still : (slots : List Retired) (candidates kept : List Bool) → length candidates ≡ length slots
      → length kept ≡ length slots
      → ((s : ℕ) → has candidates s ≡ is_retired (get_or slots s retire.No))
      → ((s : ℕ) → has kept s ≡ true → has candidates s ≡ true)
      → (count_by is_retired (slots_without slots (without candidates kept)) ≡ count_by (λ mark. mark) kept)
      × (count_by (λ mark. mark) (without candidates kept) + count_by (λ mark. mark) kept ≡ count_by is_retired slots)
  still [] [] [] long wide same less = (refl, refl)
  still [] [] (k ∷ kept) long wide same less = absurd (omega (arith, wide))
  still [] (c ∷ candidates) kept long wide same less = absurd (omega (arith, long))
  still (r ∷ slots) [] kept long wide same less = absurd (omega (arith, long))
  still (r ∷ slots) (c ∷ candidates) [] long wide same less = absurd (omega (arith, wide))
  still (r ∷ slots) (c ∷ candidates) (k ∷ kept) long wide same less =
      let rest = still slots candidates kept (omega (arith, long)) (omega (arith, wide)) (λ s. same (suc s))
      (λ s. less (suc s)) in
      let head = one r c k (same zero) (less zero) in
      let a = sum_by-cons (λ x. cond (is_retired x) 1 0) (cond (c && not k) retire.No r)
      (slots_without slots (without candidates kept)) in
      let b = count_mark k kept in
      let d = count_mark (c && not k) (without candidates kept) in
      let e = sum_by-cons (λ x. cond (is_retired x) 1 0) r slots in
      let left = rest.0 in
      let given = rest.1 in
      let first = head.0 in
      let second = head.1 in
      (omega (arith, left, first, a, b), omega (arith, given_slots, second, b, d, e))
    where
      one : (r : Retired) (c k : Bool) → c ≡ is_retired r → (k ≡ true → c ≡ true)
          → (◌≡◌ {A = ℕ} (cond (is_retired (cond (c && not k) retire.No r)) 1 0) (cond k 1 0))
          × (cond (c && not k) 1 0 + cond k 1 0 ≡ cond (is_retired r) 1 0)
      one r true true is sub = let e : ◌≡◌ {A = ℕ} 1 (cond (is_retired r) 1 0) = ap (λ b. cond b 1 0) is in (sym e, e)
      one r true false is sub = let e : ◌≡◌ {A = ℕ} 1 (cond (is_retired r) 1 0) = ap (λ b. cond b 1 0) is in (refl, e)
      one r false true is sub = absurd (false≢true (sub refl))
      one r false false is sub = let e : ◌≡◌ {A = ℕ} 0 (cond (is_retired r) 1 0) = ap (λ b. cond b 1 0) is in (sym e, e)

  both : (retired_count (after_give epoch (seat_at state i)) ≡ kept_count (seat_at state i))
      × (count_by (λ mark. mark) (given_slots (seat_at state i)) + kept_count (seat_at state i)
      ≡ retired_count (seat_at state i))
  both =
      let own = sound.kept.scans i scan at in
      let fits = sound.shape.each i inside in
      let scan_fits = fits.scan scan at in
      still (seat_at state i).retired (scan_of (seat_at state i)).candidates (scan_of (seat_at state i)).kept
      (scan_fits.candidates ∙ sym fits.retired) (scan_fits.kept ∙ sym fits.retired) own.all_retired own.kept

  pub give_leaves : retired_count (after_give epoch (seat_at state i)) ≡ kept_count (seat_at state i)
  give_leaves = both.0

  pub give_gives : count_by (λ mark. mark) (given_slots (seat_at state i)) + kept_count (seat_at state i)
      ≡ retired_count (seat_at state i)
  give_gives = both.1

  -- sets that are apart, put together
  joined : (marks others : List Bool) → length marks ≡ length others
      → ((s : ℕ) → has others s ≡ true → has marks s ≡ false)
      → count_by (λ mark. mark) (union_of marks others) ≡ count_by (λ mark. mark) marks + count_by (λ mark. mark) others
  joined [] [] long apart = refl
  joined [] (o ∷ os) long apart = absurd (omega (arith, long))
  joined (m ∷ ms) [] long apart = absurd (omega (arith, long))
  joined (m ∷ ms) (o ∷ os) long apart =
      let rest = joined ms os (omega (arith, long)) (λ s. apart (suc s)) in
      let head = one m o (apart zero) in
      let a = count_mark (m || o) (union_of ms os) in
      let b = count_mark m ms in
      let c = count_mark o os in
      omega (arith, rest, head, a, b, c)
    where
      one : (m o : Bool) → (o ≡ true → m ≡ false) → cond (m || o) 1 0 ≡ cond m 1 0 + cond o 1 0
      one true true h = absurd (false≢true (sym (h refl)))
      one true false h = refl
      one false true h = refl
      one false false h = refl

  pub give_freshens : fresh_count (after_give epoch (seat_at state i))
      ≡ fresh_count (seat_at state i) + count_by (λ mark. mark) (given_slots (seat_at state i))
  give_freshens =
      let own = sound.kept.scans i scan at in
      let fits = sound.shape.each i inside in
      let scan_fits = fits.scan scan at in
      let marks_length : length (given_slots owner) ≡ slot_count state.shape =
      length-without scan.candidates scan.kept ∙ scan_fits.candidates in
      joined owner.fresh (given_slots owner) (fits.fresh ∙ sym marks_length)
      (λ s is.
      let retired : is_retired (retired_at owner s) ≡ true =
      sym (own.all_retired s)
      ∙ (and_parts (has scan.candidates s) (not (has scan.kept s))
      (sym (has-without scan.candidates scan.kept s) ∙ is)).0 in
      let low : s < slot_count state.shape = let l = has-inside (given_slots owner) s is in
      omega (arith, marks_length) in
      alone (has owner.fresh s) (is_retired (retired_at owner s)) (count_by (λ held. eqb held s) state.roots) retired
      (held_at_most state sound s i low))
    where
      alone : (fresh retired : Bool) (roots : ℕ) → retired ≡ true → roots + (cond fresh 1 0 + cond retired 1 0) ≤ 1
          → fresh ≡ false
      alone false retired roots h low = refl
      alone true true roots h low = absurd (omega arith)
      alone true false roots h low = absurd (false≢true h)

-- a candidate's tag

reached : (candidates : List Bool) (slots : List Retired) (epoch : ℕ) → is_above_tags candidates slots epoch ≡ false
    → (slot : ℕ) × (tag : ℕ) × (has candidates slot ≡ true) × (get_or slots slot retire.No ≡ retire.Tagged tag)
    × (epoch ≤ tag)
reached [] slots epoch h = absurd (false≢true (sym h))
reached (true ∷ candidates) [] epoch h = absurd (false≢true (sym h))
reached (false ∷ candidates) [] epoch h = absurd (false≢true (sym h))
reached (true ∷ candidates) (retire.Tagged tag ∷ slots) epoch h =
    pick (ltb tag epoch) refl h (reached candidates slots epoch)
  where
    pick : (b : Bool) → ltb tag epoch ≡ b → (b && is_above_tags candidates slots epoch) ≡ false
        → (is_above_tags candidates slots epoch ≡ false
        → (slot : ℕ) × (t : ℕ) × (has candidates slot ≡ true) × (get_or slots slot retire.No ≡ retire.Tagged t)
        × (epoch ≤ t))
        → (slot : ℕ) × (t : ℕ) × (has (true ∷ candidates) slot ≡ true)
        × (get_or (retire.Tagged tag ∷ slots) slot retire.No ≡ retire.Tagged t) × (epoch ≤ t)
    pick true e g more = let rest = more g in (suc rest.0, rest.1, rest.2, rest.3, rest.4)
    pick false e g more = (0, tag, refl, refl, ltb-false tag epoch e)
reached (true ∷ candidates) (retire.Untagged ∷ slots) epoch h = let rest = reached candidates slots epoch h in
    (suc rest.0, rest.1, rest.2, rest.3, rest.4)
reached (true ∷ candidates) (retire.No ∷ slots) epoch h = let rest = reached candidates slots epoch h in
    (suc rest.0, rest.1, rest.2, rest.3, rest.4)
reached (false ∷ candidates) (slot ∷ slots) epoch h = let rest = reached candidates slots epoch h in
    (suc rest.0, rest.1, rest.2, rest.3, rest.4)

pub looked_reaches : (state : State) (i j found : ℕ) → IsSound state
    → found_at (scan_of (seat_at state i)) j ≡ Some found
    → has (scan_of (seat_at state i)).passed j ≡ false
    → (slot : ℕ) × (tag : ℕ) × (has (scan_of (seat_at state i)).candidates slot ≡ true)
    × (retired_at (seat_at state i) slot ≡ retire.Tagged tag) × (found ≤ tag)
looked_reaches state i j found sound looked unpassed =
    reached (scan_of (seat_at state i)).candidates (seat_at state i).retired found
    ((sound.kept.looked i (scan_of (seat_at state i)) (scans (seat_at state i).scan looked) j found looked unpassed).0)
  where
    -- a seat that has looked at another is at a scan
    scans : (one : Option Scan) → found_at (unwrap_or one no_scan) j ≡ Some found → one ≡ Some (unwrap_or one no_scan)
    scans None e = absurd (none-some found e)
    scans (Some one) e = refl

-- words

pub sound_words : (state : State) (words : List (List ℕ)) → IsSound state → length words ≡ slot_count state.shape
    → ((slot : ℕ) → slot < slot_count state.shape → length (get_or words slot []) ≡ state.shape.width)
    → IsSound record state { words = words }
sound_words state words sound long wide = record {
  shape = record {
    roots = sound.shape.roots;
    slots = sound.shape.slots;
    words = long;
    width = wide;
    seats =
        sound.shape.seats;
    each = sound.shape.each;
  };
  kept = record {
    safe = record { unused = sound.kept.safe.unused; once = sound.kept.safe.once };
    epochs = record {
      epoch = sound.kept.epochs.epoch;
      noted = sound.kept.epochs.noted;
      pinned =
          sound.kept.epochs.pinned;
      tagged = sound.kept.epochs.tagged;
    };
    older = sound.kept.older;
    scans = sound.kept.scans;
    passed = sound.kept.passed;
    shielded = sound.kept.shielded;
    looked = sound.kept.looked;
  };
  holding = sound.holding;
}

pub start_words : (shape : Shape) (words : List (List ℕ)) → length words ≡ slot_count shape
    → ((slot : ℕ) → slot < slot_count shape → length (get_or words slot []) ≡ shape.width)
    → IsSound record (start_state shape) { words = words }
start_words shape words = sound_words (start_state shape) words (start_sound shape)

-- fresh slots

pub fresh_alone : (state : State) (i slot : ℕ) → IsSound state → slot < slot_count state.shape
    → has (seat_at state i).fresh slot ≡ true → IsFreshAlone state i slot
fresh_alone state i slot sound low fresh = record {
  roots = λ root inside at.
      let one = get_or-le-sum_by (λ held. cond (eqb held slot) 1 0) state.roots root 0
      (omega (arith, sound.shape.roots)) in
      let here : ◌≡◌ {A = ℕ} (cond (eqb (root_at state root) slot) 1 0) 1 =
      ap (λ b. cond b 1 0) (eq-eqb (root_at state root) slot at) in
      let most = held_at_most state sound slot i low in
      let own = own_one in
      omega (arith, one, here, most, own);
  others = λ j apart. none_of (has (seat_at state j).fresh slot)
      (cond (is_retired (retired_at (seat_at state j) slot)) 1 0) (at_other j apart);
  retired = λ j. pick j;
}
  where
    own_one : ◌≡◌ {A = ℕ} (cond (has (seat_at state i).fresh slot) 1 0) 1
    own_one = ap (λ b. cond b 1 0) fresh

    in_list : i < length state.seats
    in_list = pick (cases_lt i (length state.seats))
      where
        pick : ((i < length state.seats) ⊎ (length state.seats ≤ i)) → i < length state.seats
        pick (inl here) = here
        pick (inr past) =
            absurd (false≢true (sym (ap (λ (s : Seat). has s.fresh slot) (get_or_past state.seats i nobody past))
            ∙ fresh))

    at_other : (j : ℕ) → j ≢ i → times_held slot (seat_at state j) ≡ 0
    at_other j apart =
        let sums = sum_by-set (times_held slot) state.seats i nobody nobody in_list in
        let own = own_one in
        let once = sound.kept.safe.once slot low in
        let same : get_or (set state.seats i nobody) j nobody ≡ seat_at state j =
        get_or-set_other state.seats i j nobody nobody apart in
        subst (λ (s : Seat). times_held slot s ≡ 0) same
        (rest (cases_lt j (length (set state.seats i nobody))) (omega (arith, sums, own, once)))
      where
        rest : ((j < length (set state.seats i nobody)) ⊎ (length (set state.seats i nobody) ≤ j))
            → sum_by (times_held slot) (set state.seats i nobody) ≤ 0
            → times_held slot (get_or (set state.seats i nobody) j nobody) ≡ 0
        rest (inl here) none = let one = get_or-le-sum_by (times_held slot) (set state.seats i nobody) j nobody here in
            omega (arith, one, none)
        rest (inr past) none = ap (times_held slot) (get_or_past (set state.seats i nobody) j nobody past)

    none_of : (b : Bool) (n : ℕ) → cond b 1 0 + n ≡ 0 → b ≡ false
    none_of true n h = absurd (omega (arith, h))
    none_of false n h = refl

    pick : (j : ℕ) → is_retired (retired_at (seat_at state j) slot) ≡ false
    pick j = elim (cases_eq j i) as (λ _. is_retired (retired_at (seat_at state j) slot) ≡ false) [
      | inl here ↦
          let most = held_at_most state sound slot i low in
          let own = own_one in
          subst (λ n. is_retired (retired_at (seat_at state n) slot) ≡ false) (sym here)
          (none_of (is_retired (retired_at (seat_at state i) slot)) 0 (omega (arith, most, own)))
      | inr apart ↦
          let none = at_other j apart in
          none_of (is_retired (retired_at (seat_at state j) slot)) (cond (has (seat_at state j).fresh slot) 1 0)
          (omega (arith, none))
    ]

-- shields

pub protects : (shields : List ShieldAt) (place slot : ℕ) → get_or shields place shield.Down ≡ shield.Valid slot
    → list_any (is_valid_on slot) shields ≡ true
protects [] place slot e = absurd cc
protects (at ∷ shields) zero slot e = ap (λ x. is_valid_on slot x || list_any (is_valid_on slot) shields) e
    ∙ ap (λ b. b || list_any (is_valid_on slot) shields) (eq-eqb slot slot refl)
protects (at ∷ shields) (suc place) slot e = later (is_valid_on slot at) (protects shields place slot e)
  where
    later : (b : Bool) → list_any (is_valid_on slot) shields ≡ true → (b || list_any (is_valid_on slot) shields) ≡ true
    later true h = refl
    later false h = h
