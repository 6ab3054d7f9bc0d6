-- The step Eject by itself.
use Rattle.std.proofs.Common.{◌≡◌, ◌≢◌, ℕ, suc, List, [], ◌∷◌, ◌+◌, ◌*◌, ◌<◌, ◌≤◌, le_refl, Bool, true, false, length}
use Rattle.std.proofs.Common.{get_or, sym, refl, ap, ◌∙◌, subst, inl, inr, arith, eqb, ◌⊎◌, max, ⊎_elim}
use Rattle.std.proofs.lemmas.Bool.{false≢true, eqb-true, ltb-false}
use Rattle.std.specs.Prelude.{◌&&◌, not, if◌then◌else◌, ◌==◌, Some, is_some, unwrap_or, nat_lt, None}
use mathlib.Core.Logic.{dite}
use native.Mathlib.Decide.{ℕ_discrete}
use prog.Atomic.{either}
use Rattle.pebr_core.specs.declared.kinds.Shape.{Shape}
use Rattle.pebr_core.specs.declared.kinds.Stance.{Stance}
use Rattle.pebr_core.specs.State.{State, Seat, seat_at, has, Scan, scan_of, found_at, no_scan}
use Rattle.pebr_core.specs.Steps.{with_seat, is_seat, is_above_tags, after_pass, ejected_stance, is_in_at, is_scanning}
use Rattle.pebr_core.specs.Steps.{found_epoch}
use Rattle.pebr_core.specs.Kept.{IsTaggedUpTo}
use Rattle.pebr_words.specs.Places.{Place, status_word}
use Rattle.pebr_words.specs.Shown.{of_status, Tells, sign_at}
use Rattle.pebr_words.specs.Making.{IsAsKnown, answer_found}
use Rattle.pebr_words.specs.Ruled.{IsIn, IsEjectionOf}
use Rattle.pebr_words.specs.Facts.{IsMadeBy, IsKeptBy, IsRecalledBy}
use Rattle.std.proofs.lemmas.Option.{none-some}
use Rattle.std.proofs.lemmas.List.{length-set}
use Rattle.pebr_words.specs.Pasts.{Ejection, History, past_after, newest_tag}
use Rattle.pebr_core.specs.declared.kinds.Retired.{Retired}
use Rattle.std.proofs.lemmas.Grind.{common_steps}
use Rattle.pebr_core.specs.declared.kinds.Step.TheVariants as step
use Rattle.pebr_core.specs.declared.kinds.Stance.TheVariants as stance
use Rattle.pebr_core.specs.declared.kinds.Answer.TheVariants as answer
use Rattle.pebr_core.specs.declared.kinds.Retired.TheVariants as retire
use Rattle.pebr_words.proofs.Signs.{seat_here, seat_there, seat_signs}
use Rattle.pebr_words.proofs.StepLemmas.{and_true, in_list, scans_known}
use Rattle.pebr_words.proofs.Makes.{kept_same}
use Rattle.pebr_words.proofs.Recalling.{recalls_same}
use Rattle.pebr_words.proofs.Scanning.{scan_at, open_scan, not_passed}
use Rattle.pebr_words.proofs.Stances.{ejected_told, ejected_found}
use Rattle.pebr_words.specs.Pasts.{is_ejected}

-- another seat's ejection
ejected_known : (found : ℕ) (known actual : Seat) → IsAsKnown known actual
    → IsAsKnown known record actual { status = ejected_stance found actual.status }
ejected_known found known actual (inl same) = pick (is_in_at found actual.status) refl
  where
    was_in : (s : Stance) → is_in_at found s ≡ true → s ≡ stance.In found
    was_in stance.Out e = absurd (false≢true e)
    was_in (stance.Ejected epoch) e = absurd (false≢true e)
    was_in (stance.In epoch) e = ap stance.In (eqb-true epoch found e)

    pick : (b : Bool) → is_in_at found actual.status ≡ b
        → IsAsKnown known record actual { status = if b then stance.Ejected found else actual.status }
    pick true e =
        inr (
          found,
          ap (λ (s : Seat). s.status) (sym same)
              ∙ was_in actual.status e,
          ap (λ (s : Seat). record s { status = stance.Ejected found }) same,
        )
    pick false e = inl same
ejected_known found known actual (inr (epoch, was_in, now)) =
    inr (epoch, was_in, ap (λ (s : Seat). record s { status = ejected_stance found s.status }) now)

-- a candidate's tag reaches an epoch that isn't above all tags
above_newest : (candidates : List Bool) (slots : List Retired) (epoch : ℕ)
    → is_above_tags candidates slots epoch ≡ false → epoch ≤ newest_tag slots
above_newest [] slots epoch h = absurd (false≢true (sym h))
above_newest (true ∷ candidates) [] epoch h = absurd (false≢true (sym h))
above_newest (false ∷ candidates) [] epoch h = absurd (false≢true (sym h))
above_newest (true ∷ candidates) (retire.Tagged tag ∷ slots) epoch h =
    pick (nat_lt tag epoch) refl h (λ g. above_newest candidates slots epoch g)
  where
    pick : (b : Bool) → nat_lt tag epoch ≡ b → (b && is_above_tags candidates slots epoch) ≡ false
        → (is_above_tags candidates slots epoch ≡ false → epoch ≤ newest_tag slots)
        → epoch ≤ max tag (newest_tag slots)
    pick true e g more = let rest = more g in grind (arith, common_steps, rest)
    pick false e g more = let low = ltb-false tag epoch e in grind (arith, common_steps, low)
above_newest (true ∷ candidates) (retire.Untagged ∷ slots) epoch h = above_newest candidates slots epoch h
above_newest (true ∷ candidates) (retire.No ∷ slots) epoch h = above_newest candidates slots epoch h
above_newest (false ∷ candidates) (retire.Tagged tag ∷ slots) epoch h = let rest =
    above_newest candidates slots epoch h in grind (arith, common_steps, rest)
above_newest (false ∷ candidates) (retire.Untagged ∷ slots) epoch h = above_newest candidates slots epoch h
above_newest (false ∷ candidates) (retire.No ∷ slots) epoch h = above_newest candidates slots epoch h

newest_low : (slots : List Retired) (most : ℕ) → ((slot : ℕ) → IsTaggedUpTo most (get_or slots slot retire.No))
    → newest_tag slots ≤ most
newest_low [] most each = omega arith
newest_low (retire.No ∷ slots) most each = newest_low slots most (λ k. each (suc k))
newest_low (retire.Untagged ∷ slots) most each = newest_low slots most (λ k. each (suc k))
newest_low (retire.Tagged tag ∷ slots) most each = let low : tag ≤ most = each 0 in
    let rest = newest_low slots most (λ k. each (suc k)) in grind (arith, common_steps, low, rest)

first_of : (b : Bool) → b ≡ true → (x : Ejection) (l : List Ejection) → IsIn x (if b then x ∷ l else l)
first_of true is x l = (0, refl)
first_of false is x l = absurd (false≢true is)

new_ejection : (found : ℕ) (s : Stance) (e : ℕ) → ejected_stance found s ≡ stance.Ejected e
    → (s ≡ stance.Ejected e) ⊎ ((found ≡ e) × (is_in_at found s ≡ true))
new_ejection found s e h = pick (is_in_at found s) refl h
  where
    pick : (b : Bool) → is_in_at found s ≡ b → (if b then stance.Ejected found else s) ≡ stance.Ejected e
        → (s ≡ stance.Ejected e) ⊎ ((found ≡ e) × (is_in_at found s ≡ true))
    pick true is g = inr ((let d : found ≡ e = cc in d), is)
    pick false is g = inl g

pub eject_by : (shape : Shape) (number other epoch : ℕ) (known : Seat) (scan : Scan) → other < shape.seats
    → known.scan ≡ Some scan → found_at scan other ≡ Some epoch → has scan.passed other ≡ false
    → IsMadeBy shape (step.Eject number other) number known (λ n. either (eqb n (4 * epoch + 1)) (4 * epoch + 1 + 1) n)
eject_by shape number other epoch known scan is_other scans looked unpassed core found is_shape sound inside as_known
    told =
    let same = scans_known core number known scan sound scans as_known in
    let own : Seat = seat_at core number in
    let their : Seat = seat_at core other in
    let scan_is = scan_at shape core number other known scan is_shape sound inside is_other same scans unpassed in
    let looked_at : found_at (scan_of own) other ≡ Some epoch = ap (λ (s : Scan). found_at s other) scan_is ∙ looked in
    let epoch_is : found_epoch own other ≡ epoch = ap (λ o. unwrap_or o 0) looked_at in
    let apart : other ≢ number = λ e. none-some epoch
    (sym (sound.kept.scans number scan (ap (λ (s : Seat). s.scan) same ∙ scans)).looked_others
    ∙ (ap (found_at scan) (sym e) ∙ looked)) in
    let found' : ℕ = found_epoch own other in
    let mid : State = with_seat core other (record their { status = ejected_stance found' their.status }) in
    let list = in_list shape core number is_shape sound inside in
    let other_list = in_list shape core other is_shape sound is_other in
    let mid_list : number < length mid.seats =
    subst (λ n. number < n)
    (sym (length-set core.seats other (record their { status = ejected_stance found' their.status })))
    list in
    let mid_own : seat_at mid number ≡ own =
    seat_there core other number (record their { status = ejected_stance found' their.status }) (λ e. apart (sym e)) in
    let new : Seat = after_pass other (seat_at mid number) in
    let core' : State = with_seat mid number new in
    let outer : (q : Place) → sign_at core' q ≡ sign_at mid q =
    λ q. seat_signs mid number new mid_list q (λ _. refl) (λ k _. refl) in
    let inner : (q : Place) → q ≢ status_word other → sign_at mid q ≡ sign_at core q =
    λ q ne. seat_signs core other (record their { status = ejected_stance found' their.status }) other_list q
    (λ e. absurd (ne e)) (λ k _. refl) in
    let their_sign : sign_at core' (status_word other) ≡ of_status (ejected_stance epoch their.status) =
    outer (status_word other)
    ∙ (ap (λ (s : Seat). of_status s.status)
    (seat_here core other (record their { status = ejected_stance found' their.status }) other_list)
    ∙ ap (λ n. of_status (ejected_stance n their.status)) epoch_is) in (
      and_true (is_seat core number && is_seat core other && is_scanning own && is_some (found_at (scan_of own) other))
          (not (has (scan_of own).passed other))
          (and_true (is_seat core number && is_seat core other && is_scanning own)
          (is_some (found_at (scan_of own) other))
          (open_scan shape core number other known scan is_shape sound inside is_other same scans unpassed)
          (ap is_some looked_at))
          (not_passed shape core number other known scan is_shape sound inside is_other same scans unpassed),
      record {
        shape = refl;
        told = subst (λ n. Tells (sign_at core' (status_word other)) (either (eqb found (4 * epoch + 1)) n found))
            (let e : 4 * epoch + 2 ≡ 4 * epoch + 1 + 1 = omega arith in e)
            (subst (λ s. Tells s (either (eqb found (4 * epoch + 1)) (4 * epoch + 2) found)) (sym their_sign)
            (ejected_told epoch their.status found told));
        signs = λ q ne. outer q ∙ inner q ne;
        own = inl (seat_here mid number new mid_list ∙ (ap (after_pass other) mid_own ∙ ap (after_pass other) same));
        others = λ j seat ne h. subst (IsAsKnown seat) (sym (seat_there mid number j new ne))
            (dite (ℕ_discrete j other)
            (λ (is : j ≡ other). subst (λ n. IsAsKnown seat (seat_at mid n)) (sym is)
            (subst (IsAsKnown seat)
            (sym (seat_here core other (record their { status = ejected_stance found' their.status }) other_list))
            (ejected_known found' seat their (subst (λ n. IsAsKnown seat (seat_at core n)) is h))))
            (λ (differ : j ≢ other). subst (IsAsKnown seat)
            (sym (seat_there core other j (record their { status = ejected_stance found' their.status }) differ)) h));
        epoch = le_refl core.epoch;
        ejected = λ j e now. dite (ℕ_discrete j number)
            (λ (is : j ≡ number). inl (subst (λ k. (seat_at core k).status ≡ stance.Ejected e) (sym is)
            (sym (ap (λ (s : Seat). s.status) (seat_here mid number new mid_list ∙ ap (after_pass other) mid_own))
            ∙ subst (λ k. (seat_at core' k).status ≡ stance.Ejected e) is now)))
            (λ (ne : j ≢ number).
            let in_mid : (seat_at mid j).status ≡ stance.Ejected e =
            sym (ap (λ (s : Seat). s.status) (seat_there mid number j new ne)) ∙ now in
            dite (ℕ_discrete j other)
            (λ (is : j ≡ other).
            let status' : ejected_stance found' their.status ≡ stance.Ejected e =
            sym (ap (λ (s : Seat). s.status)
            (seat_here core other (record their { status = ejected_stance found' their.status }) other_list))
            ∙ subst (λ k. (seat_at mid k).status ≡ stance.Ejected e) is in_mid in
            subst (λ k. ((seat_at core k).status ≡ stance.Ejected e)
            ⊎ ((x : Ejection) × IsEjectionOf core' k e x
            × ((past : History)
            → IsIn x (past_after (step.Eject number other)
            (answer_found (step.Eject number other) known found) known past).ejections))) (sym is)
            (⊎_elim (λ was. inl was)
            (λ (fresh : (found' ≡ e) × (is_in_at found' their.status ≡ true)).
            let at_epoch : found_epoch known other ≡ epoch =
            ap (λ o. unwrap_or (found_at o other) 0) (ap (λ s. unwrap_or s no_scan) scans)
            ∙ ap (λ o. unwrap_or o 0) looked in
            let e_is : epoch ≡ e = sym epoch_is ∙ fresh.0 in
            let older =
            (sound.kept.looked number scan (ap (λ (s : Seat). s.scan) same ∙ scans) other epoch looked unpassed).0 in
            let tag_from : epoch ≤ newest_tag known.retired =
            subst (λ (s : Seat). epoch ≤ newest_tag s.retired) same
            (above_newest scan.candidates own.retired epoch older) in
            let tag_low : newest_tag known.retired ≤ core.epoch =
            subst (λ (s : Seat). newest_tag s.retired ≤ core.epoch) same
            (newest_low own.retired core.epoch (sound.kept.epochs.tagged number)) in
            let won : (found == 4 * found_epoch known other + 1) ≡ true =
            ap (λ n. found == 4 * n + 1) at_epoch
            ∙ (ejected_found epoch their.status found told
            ∙ (ap (λ n. is_in_at n their.status) (sym epoch_is) ∙ fresh.1)) in
            inr (
              record { by = number; other = other; epoch = found_epoch known other; tag = newest_tag known.retired },
              (
                refl,
                at_epoch ∙ e_is,
                subst (λ (s : Shape). number < s.seats)
                    (sym is_shape) inside,
                (λ x. apart (sym x)),
                subst (λ n. n ≤ newest_tag known.retired) e_is tag_from,
                tag_low,
              ),
              λ past. first_of (is_ejected (answer_found (step.Eject number other) known found))
                  (ap (λ b. is_ejected (if b then answer.Ejected else answer.Lost)) won)
                  (record {
                    by = number;
                    other = other;
                    epoch = found_epoch known other;
                    tag =
                        newest_tag known.retired;
                  }) past.ejections,
            ))
            (new_ejection found' their.status e status')))
            (λ (differ : j ≢ other). inl
            (sym (ap (λ (s : Seat). s.status)
            (seat_there core other j (record their { status = ejected_stance found' their.status }) differ))
            ∙ in_mid)));
        answered = ap (λ n. if found == 4 * n + 1 then answer.Ejected else answer.Lost)
            (ap (λ (s : Seat). found_epoch s other) (sym same) ∙ epoch_is)
            ∙ ap (λ b. if b then answer.Ejected else answer.Lost)
            (ejected_found epoch their.status found told ∙ ap (λ n. is_in_at n their.status) (sym epoch_is));
      },
    )

pub eject_kept : {N A : Type 0} (keeps : List (List ℕ) → List N → Type 0)
    (whole : List N → List ℕ → Type 0)
    (after_act : N → A → N) {shape : Shape} (number other : ℕ) {known : Seat} {past : History} (note : N) (left : ℕ → ℕ)
    → IsKeptBy keeps whole after_act shape (step.Eject number other) None number known past note left
eject_kept keeps whole after_act number other note left =
    kept_same keeps whole after_act (step.Eject number other) None number note left (λ core. refl) (λ core. refl)
    (λ found. refl) (λ shape found slot h. h)

pub eject_recalled : {shape : Shape} (number other : ℕ) {known : Seat} {past : History} (left : ℕ → ℕ)
    → IsRecalledBy shape (step.Eject number other) number known past left
eject_recalled number other left = recalls_same (step.Eject number other) number left (λ a. refl) (λ a. refl)
    (λ a. refl) (λ core found before one. refl) (λ shape found slot h. h) (λ j root e. cc) (λ i slot word value e. cc)
    (λ i root old new e. cc)
