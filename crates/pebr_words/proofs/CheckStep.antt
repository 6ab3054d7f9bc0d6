-- The step Check by itself.
use Rattle.std.proofs.Common.{◌≡◌, ℕ, zero, suc, List, [], ◌∷◌, ◌+◌, Bool, true, false, get_or, sym, refl, ap, ◌∙◌}
use Rattle.std.proofs.Common.{subst, inl}
use Rattle.std.proofs.lemmas.Bool.{false≢true}
use Rattle.std.specs.Prelude.{not, if◌then◌else◌, None}
use Rattle.pebr_core.specs.declared.kinds.Shape.{Shape}
use Rattle.pebr_core.specs.declared.kinds.Stance.{Stance}
use Rattle.pebr_core.specs.declared.kinds.Answer.{Answer}
use Rattle.pebr_core.specs.State.{State, Seat, seat_at, is_out, has}
use Rattle.pebr_core.specs.Steps.{with_seat, is_seat}
use Rattle.pebr_words.specs.Places.{Place, status_word}
use Rattle.pebr_words.specs.Shown.{Tells, sign_at, shield_number}
use Rattle.pebr_words.specs.Making.{stance_from}
use Rattle.pebr_words.specs.Facts.{IsMadeBy, IsKeptBy, IsRecalledBy}
use Rattle.pebr_words.specs.Pasts.{History, past_after}
use Rattle.pebr_core.specs.declared.kinds.Step.TheVariants as step
use Rattle.pebr_core.specs.declared.kinds.Stance.TheVariants as stance
use Rattle.pebr_core.specs.declared.kinds.ShieldAt.TheVariants as shield
use Rattle.pebr_words.proofs.Signs.{seat_signs}
use Rattle.pebr_words.proofs.StepLemmas.{and_true, in_list, is_one, in_known, own_made, status_known}
use Rattle.pebr_words.proofs.Makes.{kept_same}
use Rattle.pebr_words.proofs.Recalling.{recalls_same}
use Rattle.pebr_core.specs.Steps.{after_check, validated_shield, checked_shields, check_answer}
use Rattle.pebr_core.specs.declared.kinds.ShieldAt.{ShieldAt}
use Rattle.pebr_words.proofs.Stances.{stance_told}
use Rattle.pebr_words.specs.Pasts.{Lost, was_ejected, is_ejected, history_after}
use Rattle.pebr_words.specs.Facts.{IsBefore}
use Rattle.std.proofs.Common.{map}

-- a check changes no slot that a shield stands on
checked_number : (status : Stance) (seen : List Bool) (shields : List ShieldAt) (k : ℕ)
    → shield_number (get_or (checked_shields status seen shields) k shield.Down)
    ≡ shield_number (get_or shields k shield.Down)
checked_number stance.Out seen shields k = refl
checked_number (stance.Ejected epoch) seen shields k = refl
checked_number (stance.In epoch) seen shields k = each shields k
  where
    one : (at : ShieldAt) → shield_number (validated_shield seen at) ≡ shield_number at
    one shield.Down = refl
    one (shield.Valid slot) = refl
    one (shield.Set slot) = pick (has seen slot)
      where
        pick : (b : Bool) → shield_number (if b then shield.Valid slot else shield.Set slot) ≡ slot + 1
        pick true = refl
        pick false = refl

    each : (shields : List ShieldAt) (k : ℕ)
        → shield_number (get_or (map (validated_shield seen) shields) k shield.Down)
        ≡ shield_number (get_or shields k shield.Down)
    each [] k = refl
    each (at ∷ shields) zero = one at
    each (at ∷ shields) (suc k) = each shields k

pub check_by : (shape : Shape) (number : ℕ) (known : Seat) → is_out known.status ≡ false
    → IsMadeBy shape (step.Check number) number known (λ n. n)
check_by shape number known in' core found is_shape sound inside as_known told =
    let seat : Seat = seat_at core number in
    let list = in_list shape core number is_shape sound inside in
    let new : Seat = after_check seat in
    let is : stance_from found ≡ seat.status = stance_told seat.status found told in
    let signs : (q : Place) → sign_at (with_seat core number new) q ≡ sign_at core q =
    λ q. seat_signs core number new list q (λ _. refl) (λ k _. checked_number seat.status seat.seen seat.shields k) in (
      and_true (is_seat core number) (not (is_out seat.status)) (is_one shape core number is_shape sound inside)
          (ap not (in_known known seat in' as_known)),
      own_made core (step.Check number) found found known new list
          (subst (λ s. Tells s found) (sym (signs (status_word number))) told)
          (λ q _. signs q)
          (inl (ap after_check
          (sym (ap (λ status. record known { status = status }) is ∙ status_known known seat as_known))))
          (λ epoch h. h)
          (ap check_answer is),
    )

-- a lost try changes nothing else that the seat remembers
lost_try : {A : Type 0} (f : History → A)
    → ((past : History) (tries : List Lost) → f (record past { lost = tries; has_lost = true }) ≡ f past)
    → ((past : History) (a : Answer) (n : ℕ) → f (record past { last = a; steps = n }) ≡ f past)
    → (a : Answer) (known : Seat) (number : ℕ) (past : History)
    → f (past_after (step.Check number) a known past) ≡ f past
lost_try f apart last a known number past =
    last (history_after (step.Check number) a known past) a (past.steps + 1) ∙ pick (is_ejected a) past.has_lost
  where
    pick : (b c : Bool)
        → f (if b then (if c then past else record past { lost = was_ejected ∷ past.lost; has_lost = true }) else past)
        ≡ f past
    pick true true = refl
    pick true false = apart past (was_ejected ∷ past.lost)
    pick false c = refl

pub check_kept : {N A : Type 0} (keeps : List (List ℕ) → List N → Type 0)
    (whole : List N → List ℕ → Type 0)
    (after_act : N → A → N) {shape : Shape} (number : ℕ) {known : Seat} {past : History} (note : N) (left : ℕ → ℕ)
    → IsKeptBy keeps whole after_act shape (step.Check number) None number known past note left
check_kept keeps whole after_act number note left =
    kept_same keeps whole after_act (step.Check number) None number note left (λ core. refl) (λ core. refl)
    (λ found. refl) (λ shape found slot h. h)

-- with one seat, no check finds the seat ejected
pub check_recalled : {shape : Shape} (number : ℕ) {known : Seat} {past : History} (left : ℕ → ℕ)
    → is_out known.status ≡ false → IsRecalledBy shape (step.Check number) number known past left
check_recalled {shape} number {known} {past} left in' = recalls_same (step.Check number) number left
    (λ a. lost_try (λ past. past.reads) (λ _ _. refl) (λ _ _ _. refl) a known number past)
    (λ a. lost_try (λ past. past.written) (λ _ _. refl) (λ _ _ _. refl) a known number past)
    (λ a. lost_try (λ past. past.shown) (λ _ _. refl) (λ _ _ _. refl) a known number past)
    (λ core found before one. alone core found before one (seat_at core number).status refl)
    (λ shape found slot h. h) (λ j root e. cc) (λ i slot word value e. cc) (λ i root old new e. cc)
  where
    alone : (core : State) (found : ℕ) → IsBefore shape (step.Check number) number known past core found (left found)
        → core.shape.seats ≡ 1 → (status : Stance) → (seat_at core number).status ≡ status
        → (past_after (step.Check number) (check_answer (stance_from found)) known past).lost ≡ past.lost
    alone core found before one stance.Out is =
        absurd (false≢true (sym (in_known known (seat_at core number) in' before.as_known) ∙ ap is_out is))
    alone core found before one (stance.Ejected epoch) is = absurd (before.alone one number epoch is)
    alone core found before one (stance.In epoch) is =
        ap (λ s. (past_after (step.Check number) (check_answer s) known past).lost)
        (stance_told (seat_at core number).status found before.told ∙ is)
