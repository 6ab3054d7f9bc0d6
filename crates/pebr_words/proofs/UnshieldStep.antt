-- The step Unshield by itself.
use Rattle.std.proofs.Common.{◌≡◌, ℕ, List, ◌<◌, length, sym, refl, ap, ◌∙◌, subst}
use Rattle.std.proofs.lemmas.Bool.{lt-ltb}
use Rattle.std.specs.Prelude.{None}
use Rattle.pebr_core.specs.declared.kinds.Shape.{Shape}
use Rattle.pebr_core.specs.State.{Seat, seat_at}
use Rattle.pebr_core.specs.Steps.{is_seat}
use Rattle.pebr_words.specs.Places.{shield_word}
use Rattle.pebr_words.specs.Shown.{shield_number}
use Rattle.pebr_words.specs.Facts.{IsMadeBy, IsKeptBy, IsRecalledBy}
use Rattle.std.proofs.lemmas.List.{get_or-set_same, get_or-set_other}
use Rattle.pebr_words.specs.Pasts.{History}
use Rattle.pebr_core.specs.declared.kinds.Step.TheVariants as step
use Rattle.pebr_core.specs.declared.kinds.ShieldAt.TheVariants as shield
use Rattle.pebr_words.proofs.Signs.{seat_here, seat_signs}
use Rattle.pebr_words.proofs.StepLemmas.{and_true, in_list, is_one, own_made, stays_known}
use Rattle.pebr_words.proofs.Makes.{kept_same}
use Rattle.pebr_words.proofs.Recalling.{recalls_same}
use Rattle.pebr_core.specs.Steps.{after_shield, is_place}
use Rattle.pebr_core.specs.State.{shield_at}

pub unshield_by : (shape : Shape) (number place : ℕ) (known : Seat) → place < shape.shields
    → IsMadeBy shape (step.Unshield number place) number known (λ _. 0)
unshield_by shape number place known in_place core found is_shape sound inside as_known told =
    let seat : Seat = seat_at core number in
    let list = in_list shape core number is_shape sound inside in
    let new : Seat = after_shield place (shield.Down) seat in
    let wide : place < length seat.shields =
    subst (λ n. place < n)
    (sym ((sound.shape.each number (subst (λ (s : Shape). number < s.seats) (sym is_shape) inside)).shields
    ∙ ap (λ (s : Shape). s.shields) is_shape)) in_place in
    let here : shield_at new place ≡ shield.Down =
    get_or-set_same seat.shields place (shield.Down) shield.Down wide in (
      and_true (is_seat core number) (is_place core place) (is_one shape core number is_shape sound inside)
          (lt-ltb place core.shape.shields (subst (λ (s : Shape). place < s.shields) (sym is_shape) in_place)),
      own_made core (step.Unshield number place) found 0 known new list
          (sym (ap (λ (s : Seat). shield_number (shield_at s place)) (seat_here core number new list)
          ∙ ap shield_number here))
          (λ q apart. seat_signs core number new list q (λ _. refl)
          (λ k is. ap shield_number
          (get_or-set_other seat.shields place k (shield.Down) shield.Down
          (λ same. apart (is ∙ ap (shield_word number) same)))))
          (stays_known (after_shield place (shield.Down)) (λ s status. refl) (λ s. refl) known seat as_known)
          (λ epoch h. h)
          refl,
    )

pub unshield_kept : {N A : Type 0} (keeps : List (List ℕ) → List N → Type 0)
    (whole : List N → List ℕ → Type 0)
    (after_act : N → A → N) {shape : Shape} (number place : ℕ) {known : Seat} {past : History} (note : N) (left : ℕ → ℕ)
    → IsKeptBy keeps whole after_act shape (step.Unshield number place) None number known past note left
unshield_kept keeps whole after_act number place note left =
    kept_same keeps whole after_act (step.Unshield number place) None number note left (λ core. refl) (λ core. refl)
    (λ found. refl) (λ shape found slot h. h)

pub unshield_recalled : {shape : Shape} (number place : ℕ) {known : Seat} {past : History} (left : ℕ → ℕ)
    → IsRecalledBy shape (step.Unshield number place) number known past left
unshield_recalled number place left = recalls_same (step.Unshield number place) number left (λ a. refl) (λ a. refl)
    (λ a. refl) (λ core found before one. refl) (λ shape found slot h. h) (λ j root e. cc) (λ i slot word value e. cc)
    (λ i root old new e. cc)
