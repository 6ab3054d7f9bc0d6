-- The step Replace by itself.
use Rattle.std.proofs.Common.{◌≡◌, ◌≢◌, ℕ, List, [], ◌∷◌, ◌+◌, ◌<◌, le_refl, Bool, true, false, length, get_or, sym}
use Rattle.std.proofs.Common.{refl, ap, ◌∙◌, subst, inl, inr, eqb, eq-eqb, ne_eqb, set}
use Rattle.std.proofs.lemmas.Bool.{false≢true, lt-ltb, eqb-true}
use Rattle.std.specs.Prelude.{◌&&◌, not, if◌then◌else◌, Some, Option, None}
use mathlib.Core.Logic.{dite}
use native.Mathlib.Decide.{ℕ_discrete}
use prog.Atomic.{either}
use Rattle.pebr_core.specs.declared.kinds.Shape.{Shape}
use Rattle.pebr_core.specs.declared.kinds.Answer.{Answer}
use Rattle.pebr_core.specs.State.{State, Seat, seat_at, is_out, has, word_at, slot_count, root_at}
use Rattle.pebr_core.specs.Steps.{after, with_seat, is_seat, is_slot, is_shielded, after_replace, is_root}
use Rattle.pebr_core.specs.Kept.{Uses}
use mathlib.Core.Option.{some}
use Rattle.pebr_words.specs.Places.{Place, epoch_word, status_word, shield_word, root_word, slot_word}
use Rattle.pebr_words.specs.Shown.{sign_at, of_number}
use Rattle.pebr_words.specs.Making.{IsAsKnown, act_on}
use Rattle.pebr_words.specs.Ruled.{contents, IsIn, Recalls}
use Rattle.pebr_words.specs.Facts.{IsMade, IsMadeBy, IsKeptBy, IsRecalledBy}
use Rattle.std.proofs.lemmas.Option.{none-some}
use Rattle.std.proofs.lemmas.List.{map-set, get_or-set_same, get_or-set_other, get_or_default}
use Rattle.pebr_words.specs.Pasts.{History, Read, past_after}
use lib.ListN.{get_elem?}
use Rattle.atomic_table.proofs.Lists.{at_map, at_index, set_again}
use Rattle.pebr_core.specs.declared.kinds.Step.TheVariants as step
use Rattle.pebr_core.specs.declared.kinds.Answer.TheVariants as answer
use Rattle.pebr_core.specs.declared.kinds.ShieldAt.TheVariants as shield
use Rattle.pebr_words.proofs.Signs.{seat_here, seat_there, seat_signs}
use Rattle.pebr_words.proofs.StepLemmas.{and_true, not_ejected, in_list, is_one, in_known}
use Rattle.pebr_words.proofs.Recalling.{shields_known, fresh_known, shielded_uses}
use Rattle.pebr_core.specs.State.{shield_at}
use Rattle.pebr_words.specs.Ruled.{CanReplace, AreWhole, BackedWhole, IsFreshNowhere}
use Rattle.pebr_words.specs.Pasts.{Lost, found_other, shown_at, written_at, without_slot, is_shown, with_lost}
use Rattle.pebr_words.specs.Pasts.{history_after}
use Rattle.std.proofs.lemmas.Option.{same_Some}

replaced_known : (old new : ℕ) (known actual : Seat) → IsAsKnown known actual
    → IsAsKnown (after_replace old new known) (after_replace old new actual)
replaced_known old new known actual (inl same) = inl (ap (after_replace old new) same)
replaced_known old new known actual (inr (epoch, was_in, now)) = inr (epoch, was_in, ap (after_replace old new) now)

module _ (core : State) (i root old new : ℕ) (known : Seat) (inside : i < length core.seats)
    (in_roots : root < length core.roots) (as_known : IsAsKnown known (seat_at core i)) where
  abbrev seat : Seat
  seat = after_replace old new (seat_at core i)

  abbrev changed : State
  changed = record (with_seat core i seat) { roots = set core.roots root new }

  changed_signs : (q : Place) → q ≢ root_word root → sign_at changed q ≡ sign_at core q
  changed_signs epoch_word apart = refl
  changed_signs (status_word j) apart = seat_signs core i seat inside (status_word j) (λ _. refl) (λ k _. refl)
  changed_signs (shield_word j k) apart = seat_signs core i seat inside (shield_word j k) (λ _. refl) (λ k _. refl)
  changed_signs (root_word r) apart = ap of_number
      (get_or-set_other core.roots root r new 0 (λ e. apart (ap root_word e)))
  changed_signs (slot_word slot word) apart = refl

  -- of a core that it leads to, where the root had this slot or not
  abbrev Replaces : State → Type 0
  Replaces core' = IsMade core core' (step.Replace i root old new) (root_at core root)
      (either (eqb (root_at core root) old) new (root_at core root)) known

  replaced : eqb (root_at core root) old ≡ true → Replaces changed
  replaced e = record {
    shape = refl;
    told = ap (λ b. either b new (root_at core root)) e ∙ sym (get_or-set_same core.roots root new 0 in_roots);
    signs = changed_signs;
    own = subst (λ s. IsAsKnown s (seat_at changed i))
        (sym (ap (λ b. if b then after_replace old new known else known) e))
        (subst (IsAsKnown (after_replace old new known)) (sym (seat_here core i seat inside))
        (replaced_known old new known (seat_at core i) as_known));
    others = λ j other apart h. subst (IsAsKnown other) (sym (seat_there core i j seat apart)) h;
    epoch = le_refl core.epoch;
    ejected = λ j epoch now. inl (not_ejected core i seat inside (λ _ h. h) j epoch now);
    answered = refl;
  }

  missed : eqb (root_at core root) old ≡ false → Replaces core
  missed e = record {
    shape = refl;
    told = ap (λ b. either b new (root_at core root)) e;
    signs = λ q apart. refl;
    own = subst (λ s. IsAsKnown s (seat_at core i))
        (sym (ap (λ b. if b then after_replace old new known else known) e)) as_known;
    others = λ j other apart h. h;
    epoch = le_refl core.epoch;
    ejected = λ j epoch now. inl now;
    answered = refl;
  }

  pub replace_made : Replaces (after core (step.Replace i root old new))
  replace_made = dite (ℕ_discrete (root_at core root) old)
      (λ (hit : root_at core root ≡ old). let e = eq-eqb (root_at core root) old hit in
      subst Replaces (sym (ap (λ b. if b then changed else core) e)) (replaced e))
      (λ (miss : root_at core root ≢ old). let e = ne_eqb (root_at core root) old miss in
      subst Replaces (sym (ap (λ b. if b then changed else core) e)) (missed e))

pub replace_by : (shape : Shape) (number root old new : ℕ) (known : Seat) → root < shape.roots → old < slot_count shape
    → new < slot_count shape
    → is_out known.status ≡ false → is_shielded known old ≡ true → has known.fresh new ≡ true
    → IsMadeBy shape (step.Replace number root old new) number known (λ n. either (eqb n old) new n)
replace_by shape number root old new known in_roots in_slots in_slots' in' shielded fresh core found is_shape sound
    inside as_known told =
    let a = is_seat core number in
    let r = is_root core root in
    let s = is_slot core old in
    let f = is_slot core new in
    let o = not (is_out (seat_at core number).status) in
    let v = is_shielded (seat_at core number) old in
    let roots : root < length core.roots = subst (λ n. root < n)
    (sym (sound.shape.roots ∙ ap (λ (sh : Shape). sh.roots) is_shape)) in_roots in (
      and_true (a && r && s && f && o && v) (has (seat_at core number).fresh new)
          (and_true (a && r && s && f && o) v
          (and_true (a && r && s && f) o
          (and_true (a && r && s) f
          (and_true (a && r) s
          (and_true a r (is_one shape core number is_shape sound inside)
          (lt-ltb root core.shape.roots (subst (λ (sh : Shape). root < sh.roots) (sym is_shape) in_roots)))
          (lt-ltb old (slot_count core.shape) (subst (λ (sh : Shape). old < slot_count sh) (sym is_shape) in_slots)))
          (lt-ltb new (slot_count core.shape) (subst (λ (sh : Shape). new < slot_count sh) (sym is_shape) in_slots')))
          (ap not (in_known known (seat_at core number) in' as_known)))
          (ap (λ l. is_shielded (record known { shields = l }) old) (shields_known known (seat_at core number) as_known)
          ∙ shielded))
          (ap (λ l. has l new) (fresh_known known (seat_at core number) as_known) ∙ fresh),
      subst (λ n. IsMade core (after core (step.Replace number root old new)) (step.Replace number root old new) n
          (either (eqb n old) new n) known) (sym told)
          (replace_made core number root old new known
          (in_list shape core number is_shape sound inside) roots as_known),
    )

-- The protocol keeps where the root had the old slot, and nothing changes where it hadn't.
pub replace_kept : {N A : Type 0} (keeps : List (List ℕ) → List N → Type 0) (plain : List ℕ → Type 0)
    (backed : List N → List ℕ → Type 0) (after_act : N → A → N) {shape : Shape} (act : Option A)
    (number root old new : ℕ) {known : Seat} {past : History} (note : N) (left : ℕ → ℕ)
    → root < shape.roots → old < slot_count shape → new < slot_count shape → is_shielded known old ≡ true
    → CanReplace keeps plain backed shape past number root old new note (act_on after_act act note)
    → IsKeptBy keeps (BackedWhole plain backed) after_act shape (step.Replace number root old new) act number known past
    note left
replace_kept {N} keeps plain backed after_act {shape} act number root old new {known} {past} note left in_roots in_slots
    in_slots' shielded can law core notes found before kept at are_whole =
    dite (ℕ_discrete (root_at core root) old)
    (λ (hit : root_at core root ≡ old). let e = eq-eqb (root_at core root) old hit in
    let got = can (contents core) notes (row old) (row new) kept (at_map row core.roots root old (root_has hit)) at
    (before.sound.shape.width old (core_slot old in_slots) ∙ ap (λ (s : Shape). s.width) before.shape_is)
    (before.sound.shape.width new (core_slot new in_slots') ∙ ap (λ (s : Shape). s.width) before.shape_is)
    (λ read in_reads is. ap (λ n. word_at core n read.word) (sym is)
    ∙ before.recalls.reads read in_reads (inl (under (sym is))))
    (λ word value w. (before.recalls.written new word value w).1) in
    subst (λ b. keeps (contents (if b then changed' else core)) (noted (eqb found old))
    × AreWhole (whole (noted (eqb found old))) (if b then changed' else core)) (sym e)
    (subst (λ b. keeps (contents changed') (noted b) × AreWhole (whole (noted b)) changed')
    (sym (eq-eqb found old (before.told ∙ hit))) (
      subst (λ c. keeps c (set notes number (act_on after_act act note))) (sym (map-set row core.roots root new)) got.1,
      λ slot low nowhere. dite (ℕ_discrete slot new)
          (λ (is : slot ≡ new). subst (λ n. whole (noted true) (row n)) (sym is) got.0)
          (λ (apart : slot ≢ new). let was = are_whole slot low (λ i. was_nowhere slot apart nowhere i) in
          (was.0, got.2 (row slot) was.1)),
    )))
    (λ (miss : root_at core root ≢ old). let e = ne_eqb (root_at core root) old miss in
    let same : noted false ≡ notes = set_again notes number note at in
    subst (λ b. keeps (contents (if b then changed' else core)) (noted (eqb found old))
    × AreWhole (whole (noted (eqb found old))) (if b then changed' else core)) (sym e)
    (subst (λ b. keeps (contents core) (noted b) × AreWhole (whole (noted b)) core)
    (sym (ne_eqb found old (λ same. miss (sym before.told ∙ same))))
    (subst (λ (ns : List N). keeps (contents core) ns × AreWhole (whole ns) core) (sym same) (kept, are_whole))))
  where
    whole : List N → List ℕ → Type 0
    whole = BackedWhole plain backed

    noted : Bool → List N
    noted b = set notes number (if b then act_on after_act act note else note)

    row : ℕ → List ℕ
    row slot = get_or core.words slot []

    changed' : State
    changed' =
        record (with_seat core number (after_replace old new (seat_at core number))) { roots = set core.roots root new }

    core_slot : (slot : ℕ) → slot < slot_count shape → slot < slot_count core.shape
    core_slot slot h = subst (λ (s : Shape). slot < slot_count s) (sym before.shape_is) h

    under : {slot : ℕ} → old ≡ slot → (place : ℕ) × (shield_at (seat_at core number) place ≡ shield.Valid slot)
    under is = let valid = shielded_uses known (seat_at core number) old before.as_known shielded in
        (valid.0, valid.1 ∙ ap shield.Valid is)

    root_has : root_at core root ≡ old → get_elem? core.roots root ≡ some old
    root_has hit =
        let inside : root < length core.roots = subst (λ n. root < n)
        (sym (before.sound.shape.roots ∙ ap (λ (s : Shape). s.roots) before.shape_is)) in_roots in
        at_index core.roots root old inside (sym (get_or_default core.roots root old 0 inside ∙ hit))

    was_nowhere : (slot : ℕ) → slot ≢ new → IsFreshNowhere changed' slot → (i : ℕ)
        → has (seat_at core i).fresh slot ≡ false
    was_nowhere slot apart nowhere i = dite (ℕ_discrete i number)
        (λ (same : i ≡ number). ap (λ n. has (seat_at core n).fresh slot) same
        ∙ (sym (get_or-set_other (seat_at core number).fresh new slot false false apart)
        ∙ (sym (ap (λ (s : Seat). has s.fresh slot)
        (seat_here core number (after_replace old new (seat_at core number))
        (in_list shape core number before.shape_is before.sound before.inside))) ∙ nowhere number)))
        (λ (differ : i ≢ number). sym
        (ap (λ (s : Seat). has s.fresh slot)
        (seat_there core number i (after_replace old new (seat_at core number)) differ)) ∙ nowhere i)

-- what was written into other slots
other_written : (slot : ℕ) (writes : List Read) (s x v : ℕ) → written_at (without_slot slot writes) s x ≡ Some v
    → (s ≢ slot) × (written_at writes s x ≡ Some v)
other_written slot [] s x v e = absurd (none-some v e)
other_written slot (w ∷ writes) s x v e = pick (eqb w.slot slot) refl e (other_written slot writes s x v)
  where
    pick : (b : Bool) → eqb w.slot slot ≡ b → written_at
        (if b then without_slot slot writes else w ∷ without_slot slot writes) s x ≡ Some v
        → (written_at (without_slot slot writes) s x ≡ Some v → (s ≢ slot) × (written_at writes s x ≡ Some v))
        → (s ≢ slot) × (written_at (w ∷ writes) s x ≡ Some v)
    pick true is h more =
        let rest = more h in
        let other : eqb w.slot s ≡ false = ne_eqb w.slot s (λ same. rest.0 (sym same ∙ eqb-true w.slot slot is)) in
        (rest.0, ap (λ b. if b && eqb w.word x then Some w.value else written_at writes s x) other ∙ rest.1)
    pick false is h more = here (eqb w.slot s) (eqb w.word x) refl h
      where
        here : (a b : Bool) → eqb w.slot s ≡ a
            → (if a && b then Some w.value else written_at (without_slot slot writes) s x) ≡ Some v
            → (s ≢ slot) × ((if a && b then Some w.value else written_at writes s x) ≡ Some v)
        here true true same g = ((λ e. false≢true (sym is ∙ eq-eqb w.slot slot (eqb-true w.slot s same ∙ e))), g)
        here true false same g = more g
        here false b same g = more g

-- What the seat remembers: the root has the new slot, or another was found there.
pub replace_recalled : {shape : Shape} (number root old new : ℕ) {known : Seat} {past : History} (left : ℕ → ℕ)
    → root < shape.roots → IsRecalledBy shape (step.Replace number root old new) number known past left
replace_recalled {shape} number root old new {known} {past} left in_roots law core found before =
    dite (ℕ_discrete (root_at core root) old)
    (λ (hit : root_at core root ≡ old).
    subst (λ b. Recalls (if b then changed' else core) number
    (past_after (step.Replace number root old new)
    (if eqb found old then answer.Replaced else answer.Other) known past)) (sym (eq-eqb (root_at core root) old hit))
    (subst (λ b. Recalls changed' number
    (past_after (step.Replace number root old new) (if b then answer.Replaced else answer.Other) known past))
    (sym (eq-eqb found old (before.told ∙ hit))) replaced))
    (λ (miss : root_at core root ≢ old).
    subst (λ b. Recalls (if b then changed' else core) number
    (past_after (step.Replace number root old new)
    (if eqb found old then answer.Replaced else answer.Other) known past)) (sym (ne_eqb (root_at core root) old miss))
    (subst (λ b. Recalls core number
    (past_after (step.Replace number root old new) (if b then answer.Replaced else answer.Other) known past))
    (sym (ne_eqb found old (λ same. miss (sym before.told ∙ same)))) (missed miss)))
  where
    new_seat : Seat
    new_seat = after_replace old new (seat_at core number)

    changed' : State
    changed' =
        record (with_seat core number (after_replace old new (seat_at core number))) { roots = set core.roots root new }

    here : seat_at changed' number ≡ after_replace old new (seat_at core number)
    here = seat_here core number (after_replace old new (seat_at core number))
        (in_list shape core number before.shape_is before.sound before.inside)

    shown' : core.shape.seats ≡ 1 → (r slot : ℕ) (b : Bool) → eqb root r ≡ b
        → (if b then Some new else shown_at past.shown r) ≡ Some slot → get_or (set core.roots root new) r 0 ≡ slot
    shown' one r slot true is e =
        ap (λ n. get_or (set core.roots root new) n 0) (sym (eqb-true root r is))
        ∙ (get_or-set_same core.roots root new 0
        (subst (λ n. root < n) (sym (before.sound.shape.roots ∙ ap (λ (s : Shape). s.roots) before.shape_is)) in_roots)
        ∙ same_Some new slot e)
    shown' one r slot false is e =
        get_or-set_other core.roots root r new 0 (λ same. false≢true (sym is ∙ eq-eqb root r (sym same)))
        ∙ before.recalls.shown one r slot e

    replaced : Recalls changed' number (past_after (step.Replace number root old new) answer.Replaced known past)
    replaced = record {
      reads = λ read in_reads used. before.recalls.reads read in_reads
          (subst (λ (s : Seat). Uses s read.slot) here used);
      written = λ s x v e.
          let other = other_written new past.written s x v e in
          let was = before.recalls.written s x v other.1 in (
            ap (λ (t : Seat). has t.fresh s) here
                ∙ (get_or-set_other (seat_at core number).fresh new s false false other.0 ∙ was.0),
            was.1,
          );
      shown = λ one r slot e. shown' one r slot (eqb root r) refl e;
      lost = before.recalls.lost;
    }

    -- a lost try changes nothing else
    same_but : {A : Type 0} (f : History → A)
        → ((p : History) (tries : List Lost) → f (record p { lost = tries; has_lost = true }) ≡ f p)
        → ((p : History) (a : Answer) (n : ℕ) → f (record p { last = a; steps = n }) ≡ f p)
        → f (past_after (step.Replace number root old new) answer.Other known past) ≡ f past
    same_but f apart last = last (history_after (step.Replace number root old new) answer.Other known past) answer.Other
        (past.steps + 1) ∙ pick (is_shown (shown_at past.shown root) old) past.has_lost
      where
        pick : (b c : Bool)
            → f (if b then (if c then past else record past { lost = found_other root ∷ past.lost; has_lost = true })
            else past) ≡ f past
        pick true true = refl
        pick true false = apart past (found_other root ∷ past.lost)
        pick false c = refl

    -- with one seat, the root has what the seat was shown there
    unshown : root_at core root ≢ old → core.shape.seats ≡ 1 → is_shown (shown_at past.shown root) old ≡ false
    unshown miss one = pick (shown_at past.shown root) refl
      where
        pick : (o : Option ℕ) → shown_at past.shown root ≡ o → is_shown o old ≡ false
        pick None is = refl
        pick (Some slot) is = ne_eqb slot old (λ same. miss (before.recalls.shown one root slot is ∙ same))

    missed : root_at core root ≢ old → Recalls core number
        (past_after (step.Replace number root old new) answer.Other known past)
    missed miss = record {
      reads = λ read in_reads used. before.recalls.reads read
          (subst (IsIn read) (same_but (λ p. p.reads) (λ _ _. refl) (λ _ _ _. refl)) in_reads) used;
      written = λ s x v e. before.recalls.written s x v
          (ap (λ l. written_at l s x) (sym (same_but (λ p. p.written) (λ _ _. refl) (λ _ _ _. refl))) ∙ e);
      shown = λ one r slot e. before.recalls.shown one r slot
          (ap (λ l. shown_at l r) (sym (same_but (λ p. p.shown) (λ _ _. refl) (λ _ _ _. refl))) ∙ e);
      lost = λ one. ap
          (λ b. (record (if b then with_lost (found_other root) past else past) {
            last = answer.Other;
            steps =
                past.steps + 1;
          }).lost) (unshown miss one) ∙ before.recalls.lost one;
    }
