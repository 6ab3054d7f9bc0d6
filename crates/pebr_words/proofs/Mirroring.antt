-- What a seat keeps at run time stays so at each of its steps.
use Rattle.std.proofs.Common.{◌≡◌, ◌≢◌, ℕ, zero, suc, ◌<◌, ◌≤◌, ◌^◌, Bool, true, false, List, [], ◌∷◌, length, get_or}
use Rattle.std.proofs.Common.{map, set, replicate, sym, refl, ap, ◌∙◌, subst, arith, lt_of_not-le, ◌⊎◌, inl, inr}
use Rattle.std.proofs.Common.{⊎_elim, cond, count_by, eqb}
use Rattle.std.proofs.lemmas.Bool.{eqb-true}
use Rattle.std.proofs.lemmas.List.Sums.{sum_by-cons}
use Rattle.std.specs.Prelude.{◌==◌}
use Rattle.pebr_core.specs.declared.kinds.Answer.{Answer}
use Rattle.pebr_core.specs.declared.kinds.ShieldAt.{ShieldAt}
use Rattle.pebr_core.specs.declared.kinds.ShieldAt.TheVariants as shield
use Rattle.pebr_core.specs.State.{has, root_at, retired_at, shield_at, slot_under, slots_per_seat}
use Rattle.pebr_core.specs.Steps.{after, after_replace, after_scan, after_give, with_kept, with_scanned, found_under}
use Rattle.pebr_core.specs.Steps.{given_slots, union_of, slots_without, without}
use Rattle.pebr_words.specs.Making.{IsAsKnown}
use Rattle.pebr_words.proofs.NoteStep.{retired_long}
use Rattle.pebr_words.proofs.StepLemmas.{noted_known}
use Rattle.pebr_words.proofs.Signs.{seat_here}
use Rattle.pebr_words.proofs.Recalling.{fresh_known}
use Rattle.std.proofs.lemmas.Option.{none-some, same_Some}
use Rattle.std.proofs.lemmas.List.{get_or-set_same, get_or-set_other, set_past, get_or_default}
use Rattle.std.specs.Prelude.{Option, Some, None, slice_index, if◌then◌else◌, IsSome, is_some, unwrap_or}
use mathlib.Core.Logic.{dite}
use native.Mathlib.Decide.{ℕ_discrete, dec_le}
use Rattle.pebr_core.specs.declared.kinds.Shape.{Shape}
use Rattle.pebr_core.specs.declared.kinds.Stance.{Stance}
use Rattle.pebr_core.specs.declared.kinds.Stance.TheVariants as stance
use Rattle.pebr_core.specs.declared.kinds.Answer.TheVariants as answer
use Rattle.pebr_core.specs.Kept.{IsSound}
use Rattle.std.proofs.lemmas.Bool.{false≢true}
use Rattle.pebr_core.specs.declared.kinds.Retired.{Retired}
use Rattle.pebr_core.specs.declared.kinds.Retired.TheVariants as retire
use Rattle.pebr_core.specs.State.{State, Seat, Scan, seat_at, no_scan, scan_of, found_at, is_retired, first_seat}
use Rattle.pebr_core.specs.State.{slot_count}
use Rattle.pebr_core.specs.Steps.{after_note, after_pin, after_leave, after_look, after_pass, with_scan, with_passed}
use Rattle.pebr_core.specs.Steps.{with_look, is_above_tags, tag_with, new_scan, can_pass, epoch_of, is_scanning}
use Rattle.pebr_core.specs.Steps.{last_epoch}
use Rattle.pebr_slots.specs.Sets.{Sets, is_above}
use Rattle.pebr_slots.specs.Sets as sets
use Rattle.pebr_words.specs.Mirrors.{Mirrors, IsFirst, CanTake, CanKeep, kept_after, passes, look_answer, answer_as}
use Rattle.pebr_words.specs.Mirrors.{looked_from, found_after, IsLow}
use Rattle.atomic_table.specs.Table as table
use Rattle.pebr_core.specs.declared.kinds.Step.TheVariants as step
use Rattle.pebr_words.specs.declared.views.Held.{Held}
use Rattle.pebr_words.specs.Making.{answer_found, known_in_view, stance_from, IsStepOf}
use Rattle.pebr_words.specs.Ruled.{IsTold}
use Rattle.pebr_words.proofs.StepLemmas.{scans_known}
use Rattle.pebr_words.specs.declared.looked.Looked.{Looked}
use Rattle.pebr_words.specs.declared.looked.Looked.TheVariants as looked

nothing : (replicated n k : ℕ) → get_or (replicate {A = Option ℕ} n None) k None ≡ None
nothing replicated zero k = refl
nothing replicated (suc n) zero = refl
nothing replicated (suc n) (suc k) = nothing replicated n k

-- a step that changes neither slots nor scan nor what was noted
pub same_mirrors : (noted : ℕ) (slots : Sets) (found : List ℕ) (known new : Seat) → Mirrors noted slots found known
    → new.noted ≡ known.noted → new.fresh ≡ known.fresh → new.retired ≡ known.retired → new.scan ≡ known.scan
    → Mirrors noted slots found new
same_mirrors noted slots found known new m is_noted fresh retired scan = record {
  noted_is = is_noted ∙ m.noted_is;
  low = m.low;
  fresh_is = m.fresh_is ∙ sym fresh;
  retired_is = m.retired_is ∙ sym retired;
  kept_is = λ open' e. m.kept_is open' (sym scan ∙ e);
  few = m.few;
  found_is = λ other epoch h. m.found_is other epoch
      (ap (λ (o : Option Scan). found_at (unwrap_or o no_scan) other) (sym scan) ∙ h);
}

module _ (noted : ℕ) (slots : Sets) (found : List ℕ) (known : Seat) (m : Mirrors noted slots found known) where
  pub note_mirrors : (shape : Shape) (epoch : ℕ) (slots' : Sets) → epoch ≤ last_epoch
      → length known.retired ≡ slot_count shape
      → slots'.fresh ≡ slots.fresh → slots'.retired ≡ map (tag_with epoch) slots.retired
      → slots'.kept ≡ replicate (length slots.retired) false → Mirrors epoch slots' found (after_note shape epoch known)
  note_mirrors shape epoch slots' low long fresh retired kept = record {
    noted_is = refl;
    low = low;
    fresh_is = fresh ∙ m.fresh_is;
    retired_is = retired ∙ ap (map (tag_with epoch)) m.retired_is;
    kept_is =
        λ scan e. kept
        ∙ (ap (λ l. replicate (length l) false) m.retired_is
        ∙ (ap (λ n. replicate n false) long ∙ ap (λ (s : Scan). s.kept)
        (same_Some (new_scan shape (map (tag_with epoch) known.retired)) scan e)));
    few = m.few;
    found_is = λ other e h. absurd (none-some e (sym (nothing 0 shape.seats other) ∙ h));
  }

  pub pin_mirrors : Mirrors noted slots found (after_pin known)
  pin_mirrors =
      record {
        noted_is = m.noted_is;
        low = m.low;
        fresh_is = m.fresh_is;
        retired_is = m.retired_is;
        kept_is =
            λ scan e. absurd (none-some scan e);
        few = m.few;
        found_is = λ other e h. absurd (none-some e h);
      }

  pub leave_mirrors : Mirrors noted slots found (after_leave known)
  leave_mirrors = same_mirrors noted slots found known (after_leave known) m refl refl refl refl

  -- what the scan of a scanning seat keeps
  kept_here : is_scanning known ≡ true → (new : Scan) → new.kept ≡ (scan_of known).kept → (scan : Scan)
      → Some new ≡ Some scan → slots.kept ≡ scan.kept
  kept_here scanning new same scan e = m.kept_is (scan_of known) (is_scan known.scan scanning)
      ∙ (sym same ∙ ap (λ (s : Scan). s.kept) (same_Some new scan e))
    where
      is_scan : (o : Option Scan) → is_some o ≡ true → o ≡ Some (unwrap_or o no_scan)
      is_scan None h = absurd (false≢true h)
      is_scan (Some x) h = refl

  pub pass_mirrors : is_scanning known ≡ true → (other : ℕ) → Mirrors noted slots found (after_pass other known)
  pass_mirrors scanning other =
      record {
        noted_is = m.noted_is;
        low = m.low;
        fresh_is = m.fresh_is;
        retired_is = m.retired_is;
        kept_is =
            kept_here scanning (with_passed (scan_of known) other) refl;
        few = m.few;
        found_is = m.found_is;
      }

  pub find_mirrors : is_scanning known ≡ true → (other epoch : ℕ) → other < length found → epoch < 2 ^ 62
      → Mirrors noted slots (set found other epoch) (with_scan known (with_look (scan_of known) other epoch))
  find_mirrors scanning other epoch inside low = record {
    noted_is = m.noted_is;
    low = m.low;
    fresh_is = m.fresh_is;
    retired_is = m.retired_is;
    kept_is = kept_here scanning (with_look (scan_of known) other epoch) refl;
    few = λ j. dite (ℕ_discrete j other)
        (λ (same : j ≡ other). subst (λ k. slice_index (set found other epoch) k < 2 ^ 62) (sym same)
        (subst (λ n. n < 2 ^ 62) (sym (get_or-set_same found other epoch 0 inside)) low))
        (λ (apart : j ≢ other). subst (λ n. n < 2 ^ 62) (sym (get_or-set_other found other j epoch 0 apart)) (m.few j));
    found_is = λ j e h. dite (ℕ_discrete j other)
        (λ (same : j ≡ other). subst (λ k. slice_index (set found other epoch) k ≡ e) (sym same)
        (get_or-set_same found other epoch 0 inside
        ∙ own e (subst (λ k. get_or (set (scan_of known).looked other (Some epoch)) k None ≡ Some e) same h)))
        (λ (apart : j ≢ other). get_or-set_other found other j epoch 0 apart
        ∙ m.found_is j e (sym (get_or-set_other (scan_of known).looked other j (Some epoch) None apart) ∙ h));
  }
    where
      own : (e : ℕ) → get_or (set (scan_of known).looked other (Some epoch)) other None ≡ Some e → epoch ≡ e
      own e h = dite (dec_le (length (scan_of known).looked) other)
          (λ (past : length (scan_of known).looked ≤ other). absurd
          (none-some e (sym (beyond (scan_of known).looked other past)
          ∙ (ap (λ l. get_or l other None) (sym (set_past (scan_of known).looked other (Some epoch) past)) ∙ h))))
          (λ near. same_Some epoch e
          (sym (get_or-set_same (scan_of known).looked other (Some epoch) None (lt_of_not-le near)) ∙ h))
        where
          beyond : (l : List (Option ℕ)) (k : ℕ) → length l ≤ k → get_or l k None ≡ None
          beyond [] k far = refl
          beyond (x ∷ xs) zero far = absurd (omega (arith, far))
          beyond (x ∷ xs) (suc k) far = beyond xs k (omega (arith, far))

pub first_mirrors : (shape : Shape) (i seats : ℕ) (slots : Sets) → IsFirst shape i slots
    → Mirrors 0 slots (replicate seats 0) (first_seat shape i)
first_mirrors shape i seats slots first = record {
  noted_is = refl;
  low = omega arith;
  fresh_is = first.0;
  retired_is = first.1;
  kept_is = λ scan e. absurd (none-some scan e);
  few = λ other. all_low seats other;
  found_is = λ other epoch h. absurd (none-some epoch h);
}
  where
    all_low : (n k : ℕ) → get_or (replicate n 0) k 0 < 2 ^ 62
    all_low zero k = omega arith
    all_low (suc n) zero = omega arith
    all_low (suc n) (suc k) = all_low n k

-- what a seat keeps of another that its scan found in is the epoch found
pub found_here : (noted : ℕ) (slots : Sets) (found : List ℕ) (known : Seat) → Mirrors noted slots found known
    → (other epoch : ℕ) → IsSome (found_at (scan_of known) other)
    → other < length found → epoch ≡ get_or found other epoch → found_at (scan_of known) other ≡ Some epoch
found_here noted slots found known m other epoch looked inside read = pick (found_at (scan_of known) other) refl looked
  where
    pick : (o : Option ℕ) → found_at (scan_of known) other ≡ o → IsSome o → o ≡ Some epoch
    pick None e h = absurd (false≢true h)
    pick (Some n) e h = ap Some (sym (m.found_is other n e) ∙ sym (read ∙ get_or_default found other epoch 0 inside))

-- a seat that is scanning has a scan
pub has_scan : (known : Seat) → is_scanning known ≡ true → known.scan ≡ Some (scan_of known)
has_scan known scanning = pick known.scan scanning
  where
    pick : (o : Option Scan) → is_some o ≡ true → o ≡ Some (unwrap_or o no_scan)
    pick None h = absurd (false≢true h)
    pick (Some scan) h = refl

-- the candidates of a scan are the retired slots
pub candidates_retired : (core : State) (i : ℕ) (known : Seat) (scan : Scan) → IsSound core → i < core.shape.seats
    → seat_at core i ≡ known → known.scan ≡ Some scan
    → scan.candidates ≡ map is_retired known.retired
candidates_retired core i known scan sound inside same scans =
    let seat : Seat = seat_at core i in
    let at : seat.scan ≡ Some scan = ap (λ (s : Seat). s.scan) same ∙ scans in
    let fits = sound.shape.each i inside in
    let is : scan.candidates ≡ map is_retired seat.retired = same_marks scan.candidates seat.retired
    ((fits.scan scan at).candidates ∙ sym fits.retired)
    ((sound.kept.scans i scan at).all_retired) in
    is ∙ ap (λ (s : Seat). map is_retired s.retired) same
  where
    same_marks : (marks : List Bool) (slots : List Retired) → length marks ≡ length slots
        → ((k : ℕ) → get_or marks k false ≡ is_retired (get_or slots k retire.No)) → marks ≡ map is_retired slots
    same_marks [] [] long each = refl
    same_marks [] (slot ∷ slots) long each = absurd (omega (arith, long))
    same_marks (mark ∷ marks) [] long each = absurd (omega (arith, long))
    same_marks (mark ∷ marks) (slot ∷ slots) long each =
        ap (λ b. b ∷ marks) (each 0) ∙ ap (λ l. is_retired slot ∷ l)
        (same_marks marks slots (omega (arith, long)) (λ k. each (suc k)))

-- a look is judged by what the seat keeps
pub passes_is : (noted : ℕ) (slots : Sets) (found : List ℕ) (known : Seat) → Mirrors noted slots found known
    → (newest : Option ℕ)
    → ((epoch : ℕ) → is_above_tags (map is_retired slots.retired) slots.retired epoch ≡ is_above newest epoch)
    → (scan_of known).candidates ≡ map is_retired known.retired
    → (s : Stance) → can_pass (scan_of known).candidates known.retired s ≡ passes newest s
passes_is noted slots found known m newest is are stance.Out = refl
passes_is noted slots found known m newest is are (stance.Ejected epoch) = refl
passes_is noted slots found known m newest is are (stance.In epoch) =
    ap (λ c. is_above_tags c known.retired epoch) are
    ∙ (ap (λ l. is_above_tags (map is_retired l) l epoch) (sym m.retired_is) ∙ is epoch)

pub judged_is : (newest : Option ℕ) (known : Seat) (s : Stance) (other : ℕ) (result : Looked)
    → can_pass (scan_of known).candidates known.retired s ≡ passes newest s → answer_as result ≡ look_answer newest s
    → (after_look other s known ≡ looked_from other result known)
    × ((if can_pass (scan_of known).candidates known.retired s then answer.Passed else answer.In (epoch_of s))
    ≡ answer_as result)
judged_is newest known s other result can is =
    let told = read newest s in (
      ap (λ b. if b then with_scan known (with_passed (scan_of known) other)
          else with_scan known (with_look (scan_of known) other (epoch_of s))) can
          ∙ after (passes newest s) result (is ∙ told),
      ap (λ b. if b then answer.Passed else answer.In (epoch_of s)) can ∙ sym (is ∙ told),
    )
  where
    read : (newest : Option ℕ) (s : Stance) → look_answer newest s
        ≡ (if passes newest s then answer.Passed else answer.In (epoch_of s))
    read newest stance.Out = refl
    read newest (stance.Ejected epoch) = refl
    read newest (stance.In epoch) = refl

    after : (b : Bool) (result : Looked) → answer_as result ≡ (if b then answer.Passed else answer.In (epoch_of s))
        → (if b then with_scan known (with_passed (scan_of known) other)
        else with_scan known (with_look (scan_of known) other (epoch_of s))) ≡ looked_from other result known
    after true looked.Passed e = refl
    after true (looked.In n) e = absurd cc
    after false looked.Passed e = absurd cc
    after false (looked.In n) e = ap (λ m. with_scan known (with_look (scan_of known) other m))
        (let d : epoch_of s ≡ n = cc in d)

pub found_low : (noted : ℕ) (slots : Sets) (found : List ℕ) (known : Seat) → Mirrors noted slots found known
    → (other epoch : ℕ)
    → other < length found → epoch ≡ get_or found other epoch → epoch < 2 ^ 62
found_low noted slots found known m other epoch inside read =
    subst (λ n. n < 2 ^ 62) (sym (read ∙ get_or_default found other epoch 0 inside)) (m.few other)

pub looked_mirrors : (noted : ℕ) (slots : Sets) (found : List ℕ) (known : Seat) → Mirrors noted slots found known
    → is_scanning known ≡ true → (other : ℕ) (result : Looked)
    → other < length found → IsLow result → Mirrors noted slots (found_after found other result)
    (looked_from other result known)
looked_mirrors noted slots found known m scanning other looked.Passed inside low =
    pass_mirrors noted slots found known m scanning other
looked_mirrors noted slots found known m scanning other (looked.In epoch) inside low =
    find_mirrors noted slots found known m scanning other epoch inside low

-- what a look tells, judged by what the seat keeps
pub look_told : {N A : Type 0} (after_act : N → A → N) (whole : List ℕ → Type 0) (blank : N) (shape : Shape) (noted : ℕ)
    (slots : Sets) (newest : Option ℕ) (kept : List ℕ) (number other found : ℕ) (result : Looked)
    (me me' : table.Me (Unit {0}) (List (Held N)))
    → Mirrors noted slots kept (known_in_view me.0)
    → ((epoch : ℕ) → is_above_tags (map is_retired slots.retired) slots.retired epoch ≡ is_above newest epoch)
    → is_scanning (known_in_view me.0) ≡ true → number < shape.seats
    → IsTold after_act whole blank shape (step.Look number other) None found me me'
    → answer_as result ≡ look_answer newest (stance_from found)
    → (known_in_view me'.0 ≡ looked_from other result (known_in_view me.0))
    × IsStepOf shape (step.Look number other) (answer_as result) (known_in_view me.0) (known_in_view me'.0)
    × (answer_found (step.Look number other) (known_in_view me.0) found ≡ answer_as result)
look_told after_act whole blank shape noted slots newest kept number other found result me me' m above scanning inside
    told is =
    let known : Seat = known_in_view me.0 in
    let made = told.made in
    let scans = has_scan known scanning in
    let same = scans_known made.core number known (scan_of known) made.sound scans made.before in
    let are = candidates_retired made.core number known (scan_of known) made.sound
    (subst (λ (s : Shape). number < s.seats) (sym made.shape_is) inside) same scans in
    let both = judged_is newest known (stance_from found) other result
    (passes_is noted slots kept known m newest above are (stance_from found)) is in (
      told.known ∙ both.0,
      subst (λ a. IsStepOf shape (step.Look number other) a known (known_in_view me'.0)) both.1 made,
      both.1,
    )

-- Replace

retired_known : (known actual : Seat) → IsAsKnown known actual → actual.retired ≡ known.retired
retired_known known actual (inl same) = ap (λ (s : Seat). s.retired) same
retired_known known actual (inr (epoch, was_in, now)) = ap (λ (s : Seat). s.retired) now

some_fresh : (marks : List Bool) (slot : ℕ) → has marks slot ≡ true → 0 < count_by (λ mark. mark) marks
some_fresh [] slot h = absurd (false≢true h)
some_fresh (m ∷ ms) zero h = let a = sum_by-cons (λ b. cond b 1 0) m ms in
    let one : ◌≡◌ {A = ℕ} (cond m 1 0) 1 = ap (λ b. cond b 1 0) h in omega (arith, a, one)
some_fresh (m ∷ ms) (suc slot) h = let rest = some_fresh ms slot h in let a = sum_by-cons (λ b. cond b 1 0) m ms in
    omega (arith, rest, a)

-- the slots of a seat that replaced a root's slot
pub can_take : {shape : Shape} (number root old new found : ℕ) {known after' : Seat} (noted : ℕ) (slots : Sets)
    (kept : List ℕ)
    → ((state : State) (root i : ℕ) → IsSound state → root < state.shape.roots
    → has (seat_at state i).fresh (root_at state root) ≡ false)
    → ((state : State) (root i : ℕ) → IsSound state → root < state.shape.roots
    → is_retired (retired_at (seat_at state i) (root_at state root)) ≡ false)
    → IsStepOf shape (step.Replace number root old new)
    (if found == old then answer.Replaced else answer.Other) known after' → Mirrors noted slots kept known
    → slots.room ≡ slots_per_seat shape
    → number < shape.seats → root < shape.roots → old < slot_count shape → has known.fresh new ≡ true
    → (found == old) ≡ true → CanTake slots old new
can_take {shape} number root old new found {known} noted slots kept not_fresh not_retired made m room inside in_roots
    in_slots fresh hit =
    let core : State = made.core in
    let seat : Seat = seat_at core number in
    let at : root_at core root ≡ old = at_root (root_at core root)
    (ap (λ b. if b then answer.Replaced else answer.Other) (sym hit) ∙ made.answered) in
    let core_root : root < core.shape.roots = subst (λ (s : Shape). root < s.roots) (sym made.shape_is) in_roots in
    let core_seat : number < core.shape.seats = subst (λ (s : Shape). number < s.seats) (sym made.shape_is) inside in
    let is_f : seat.fresh ≡ known.fresh = fresh_known known seat made.before in
    let is_r : seat.retired ≡ known.retired = retired_known known seat made.before in record {
      unretired = ap (λ l. get_or l old retire.No) (m.retired_is ∙ sym is_r)
          ∙ none_retired (get_or seat.retired old retire.No)
          (ap (λ n. is_retired (get_or seat.retired n retire.No)) (sym at)
          ∙ not_retired core root number made.sound core_root);
      apart = ap (λ l. has l old) (m.fresh_is ∙ sym is_f)
          ∙ (ap (has seat.fresh) (sym at) ∙ not_fresh core root number made.sound core_root);
      fresh = ap (λ l. has l new) m.fresh_is ∙ fresh;
      range = subst (λ n. old < n) (sym (ap length m.retired_is ∙ retired_long made inside)) in_slots;
      room = (
          let held = made.sound.holding number core_seat in
          let some' = some_fresh known.fresh new fresh in
          let a = ap (count_by (λ mark. mark)) is_f in
          let b = ap (count_by is_retired) (m.retired_is ∙ sym is_r) in
          let k : slots_per_seat core.shape ≡ slots_per_seat shape = ap slots_per_seat made.shape_is in
          omega (arith, held, some', a, b, k, room));
    }
  where
    none_retired : (r : Retired) → is_retired r ≡ false → r ≡ retire.No
    none_retired retire.No h = refl
    none_retired retire.Untagged h = absurd (false≢true (sym h))
    none_retired (retire.Tagged tag) h = absurd (false≢true (sym h))

    at_root : (slot : ℕ) → answer.Replaced ≡ (if slot == old then answer.Replaced else answer.Other) → slot ≡ old
    at_root slot e = pick (eqb slot old) refl e
      where
        pick : (b : Bool) → eqb slot old ≡ b → answer.Replaced ≡ (if b then answer.Replaced else answer.Other)
            → slot ≡ old
        pick true is h = eqb-true slot old is
        pick false is h = absurd cc

pub replace_mirrors : (b : Bool) (old new noted : ℕ) (slots slots' : Sets) (found : List ℕ) (known : Seat)
    → Mirrors noted slots found known
    → slots'.fresh ≡ (if b then set slots.fresh new false else slots.fresh)
    → slots'.retired ≡ (if b then set slots.retired old retire.Untagged else slots.retired) → slots'.kept ≡ slots.kept
    → Mirrors noted slots' found (if b then after_replace old new known else known)
replace_mirrors true old new noted slots slots' found known m fresh retired kept = record {
  noted_is = m.noted_is;
  low = m.low;
  fresh_is = fresh ∙ ap (λ l. set l new false) m.fresh_is;
  retired_is = retired ∙ ap (λ l. set l old retire.Untagged) m.retired_is;
  kept_is = λ scan e. kept ∙ m.kept_is scan e;
  few = m.few;
  found_is = m.found_is;
}
replace_mirrors false old new noted slots slots' found known m fresh retired kept = record {
  noted_is = m.noted_is;
  low = m.low;
  fresh_is = fresh ∙ m.fresh_is;
  retired_is = retired ∙ m.retired_is;
  kept_is = λ scan e. kept ∙ m.kept_is scan e;
  few = m.few;
  found_is = m.found_is;
}

-- Scan

-- the slot under a shield that was read is one, and it isn't retired without a tag
pub can_keep : {shape : Shape} (number other place : ℕ) (slot : Option ℕ) {known after' : Seat} (noted : ℕ)
    (slots : Sets) (kept : List ℕ)
    → IsStepOf shape (step.Scan number other place) (found_under slot) known after' → Mirrors noted slots kept known
    → is_scanning known ≡ true → number < shape.seats → other < shape.seats → CanKeep slots slot
can_keep number other place None noted slots kept made m scanning inside is_other = tt
can_keep {shape} number other place (Some slot) {known} noted slots kept made m scanning inside is_other = (
  subst (λ n. slot < n) (sym (ap length m.retired_is ∙ retired_long made inside))
      (subst (λ (s : Shape). slot < slot_count s) made.shape_is below),
  λ u. (sound.kept.scans number (scan_of known) (ap (λ (s : Seat). s.scan) same ∙ scans)).tagged slot
      (ap (λ (s : Seat). get_or s.retired slot retire.No) same
      ∙ (ap (λ l. get_or l slot retire.No) (sym m.retired_is) ∙ u)),
)
  where
    core : State
    core = made.core

    sound : IsSound core
    sound = made.sound

    scans : known.scan ≡ Some (scan_of known)
    scans = has_scan known scanning

    same : seat_at core number ≡ known
    same = scans_known core number known (scan_of known) sound scans made.before

    core_other : other < core.shape.seats
    core_other = subst (λ (s : Shape). other < s.seats) (sym made.shape_is) is_other

    under : (at : ShieldAt) → answer.Holds slot ≡ found_under (slot_under at)
        → (at ≡ shield.Set slot) ⊎ (at ≡ shield.Valid slot)
    under shield.Down e = absurd cc
    under (shield.Set s) e = inl (ap shield.Set (let d : s ≡ slot = cc in d))
    under (shield.Valid s) e = inr (ap shield.Valid (let d : s ≡ slot = cc in d))

    below : slot < slot_count core.shape
    below = ⊎_elim
        (λ e. (sound.shape.each other core_other).set place slot e)
        (λ e. (sound.shape.each other core_other).valid place slot e)
        (under (shield_at (seat_at core other) place) made.answered)

pub scan_mirrors : {shape : Shape} (number other place : ℕ) (slot : Option ℕ) {known after' : Seat} (noted : ℕ)
    (slots slots' : Sets) (found : List ℕ)
    → IsStepOf shape (step.Scan number other place) (found_under slot) known after' → number < shape.seats
    → Mirrors noted slots found known → is_scanning known ≡ true
    → slots'.fresh ≡ slots.fresh → slots'.retired ≡ slots.retired → slots'.kept ≡ kept_after slots slot
    → Mirrors noted slots' found (after_scan other place slot known)
scan_mirrors {shape} number other place slot {known} noted slots slots' found made inside m scanning fresh retired
    kept = record {
      noted_is = m.noted_is;
      low = m.low;
      fresh_is = fresh ∙ m.fresh_is;
      retired_is = retired ∙ m.retired_is;
      kept_is =
          λ scan e. kept
          ∙ (kept_here slot ∙ ap (λ (s : Scan). s.kept)
          (same_Some (with_kept (with_scanned (scan_of known) other place) slot) scan e));
      few = m.few;
      found_is = λ o epoch h. m.found_is o epoch (sym (looked_same slot o) ∙ h);
    }
  where
    scans : known.scan ≡ Some (scan_of known)
    scans = has_scan known scanning

    are : (scan_of known).candidates ≡ map is_retired known.retired
    are = candidates_retired made.core number known (scan_of known) made.sound
        (subst (λ (s : Shape). number < s.seats) (sym made.shape_is) inside)
        (scans_known made.core number known (scan_of known) made.sound scans made.before) scans

    test : (s : ℕ) → is_retired (get_or slots.retired s retire.No) ≡ has (scan_of known).candidates s
    test s = ap (λ l. is_retired (get_or l s retire.No)) m.retired_is
        ∙ (sym (mapped known.retired s) ∙ ap (λ l. has l s) (sym are))
      where
        mapped : (rs : List Retired) (k : ℕ) → get_or (map is_retired rs) k false ≡ is_retired (get_or rs k retire.No)
        mapped [] k = refl
        mapped (r ∷ rs) zero = refl
        mapped (r ∷ rs) (suc k) = mapped rs k

    kept_here : (slot : Option ℕ) → kept_after slots slot
        ≡ (with_kept (with_scanned (scan_of known) other place) slot).kept
    kept_here None = m.kept_is (scan_of known) scans
    kept_here (Some s) = ap (λ b. if b then set slots.kept s true else slots.kept) (test s)
        ∙ pick (has (scan_of known).candidates s)
      where
        pick : (b : Bool) → (if b then set slots.kept s true else slots.kept)
            ≡ (if b then record (with_scanned (scan_of known) other place) { kept = set (scan_of known).kept s true }
            else with_scanned (scan_of known) other place).kept
        pick true = ap (λ l. set l s true) (m.kept_is (scan_of known) scans)
        pick false = m.kept_is (scan_of known) scans

    looked_same : (slot : Option ℕ) (o : ℕ) → found_at (with_kept (with_scanned (scan_of known) other place) slot) o
        ≡ found_at (scan_of known) o
    looked_same None o = refl
    looked_same (Some s) o = pick (has (scan_of known).candidates s)
      where
        pick : (b : Bool)
            → found_at
            (if b then record (with_scanned (scan_of known) other place) { kept = set (scan_of known).kept s true }
            else with_scanned (scan_of known) other place) o ≡ found_at (scan_of known) o
        pick true = refl
        pick false = refl

-- Give

pub give_mirrors : {shape : Shape} (number epoch : ℕ) {a : Answer} {known : Seat} (noted : ℕ) (slots slots' : Sets)
    (found : List ℕ)
    → IsStepOf shape (step.Give number) a known (after_give epoch known) → number < shape.seats
    → Mirrors noted slots found known → is_scanning known ≡ true
    → slots'.fresh ≡ union_of slots.fresh (sets.given_slots slots)
    → slots'.retired ≡ slots_without slots.retired (sets.given_slots slots)
    → Mirrors epoch slots' found (after_give epoch known)
give_mirrors {shape} number epoch {a} {known} noted slots slots' found made inside m scanning fresh retired = record {
  noted_is = refl;
  low = subst (λ n. n ≤ last_epoch) (sym noted_epoch) made.sound.kept.epochs.epoch;
  fresh_is = fresh ∙ (ap (λ l. union_of l (sets.given_slots slots)) m.fresh_is ∙ ap (union_of known.fresh) given_is);
  retired_is = retired ∙ (ap (λ l. slots_without l (sets.given_slots slots)) m.retired_is
      ∙ ap (slots_without known.retired) given_is);
  kept_is = λ scan e. absurd (none-some scan e);
  few = m.few;
  found_is = λ other e h. absurd (none-some e h);
}
  where
    core : State
    core = made.core

    scans : known.scan ≡ Some (scan_of known)
    scans = has_scan known scanning

    core_seat : number < core.shape.seats
    core_seat = subst (λ (s : Shape). number < s.seats) (sym made.shape_is) inside

    are : (scan_of known).candidates ≡ map is_retired known.retired
    are = candidates_retired core number known (scan_of known) made.sound core_seat
        (scans_known core number known (scan_of known) made.sound scans made.before) scans

    given_is : sets.given_slots slots ≡ given_slots known
    given_is = ap (λ l. without (map is_retired l) slots.kept) m.retired_is
        ∙ (ap (λ l. without l slots.kept) (sym are)
        ∙ ap (without (scan_of known).candidates) (m.kept_is (scan_of known) scans))

    noted_epoch : epoch ≡ core.epoch
    noted_epoch = sym (noted_known (after_give epoch known) (seat_at (after core (step.Give number)) number) made.later)
        ∙ ap (λ (s : Seat). s.noted)
        (seat_here core number (after_give core.epoch (seat_at core number))
        (subst (λ n. number < n) (sym made.sound.shape.seats) core_seat))

-- what a Give answers
pub given_counts : {shape : Shape} (number epoch : ℕ) {a : Answer} {known : Seat} (noted : ℕ) (slots slots' : Sets)
    (found : List ℕ) → Mirrors noted slots found known → Mirrors epoch slots' found (after_give epoch known)
    → IsStepOf shape (step.Give number) a known (after_give epoch known) → number < shape.seats
    → is_scanning known ≡ true
    → (count_by (λ mark. mark) (sets.given_slots slots) ≡ count_by (λ mark. mark) (given_slots known))
    × (count_by is_retired slots'.retired ≡ count_by is_retired (after_give epoch known).retired)
given_counts {shape} number epoch {a} {known} noted slots slots' found m m' made inside scanning = (
  ap (count_by (λ mark. mark)) (ap (λ l. without (map is_retired l) slots.kept) m.retired_is
      ∙ (ap (λ l. without l slots.kept) (sym are)
      ∙ ap (without (scan_of known).candidates) (m.kept_is (scan_of known) scans))),
  ap (count_by is_retired) m'.retired_is,
)
  where
    scans : known.scan ≡ Some (scan_of known)
    scans = has_scan known scanning

    are : (scan_of known).candidates ≡ map is_retired known.retired
    are = candidates_retired made.core number known (scan_of known) made.sound
        (subst (λ (s : Shape). number < s.seats) (sym made.shape_is) inside)
        (scans_known made.core number known (scan_of known) made.sound scans made.before) scans
