-- The step Shield by itself.
use Rattle.std.proofs.Common.{◌≡◌, ℕ, List, ◌+◌, ◌<◌, true, false, length, sym, refl, ap, ◌∙◌, subst}
use Rattle.std.proofs.lemmas.Bool.{lt-ltb}
use Rattle.std.specs.Prelude.{◌&&◌, not, None}
use Rattle.pebr_core.specs.declared.kinds.Shape.{Shape}
use Rattle.pebr_core.specs.State.{Seat, seat_at, is_out, has, slot_count}
use Rattle.pebr_core.specs.Steps.{is_seat, is_slot}
use Rattle.pebr_words.specs.Places.{shield_word}
use Rattle.pebr_words.specs.Shown.{shield_number}
use Rattle.pebr_words.specs.Facts.{IsMadeBy, IsKeptBy, IsRecalledBy}
use Rattle.std.proofs.lemmas.List.{get_or-set_same, get_or-set_other}
use Rattle.pebr_words.specs.Pasts.{History}
use Rattle.pebr_core.specs.declared.kinds.Step.TheVariants as step
use Rattle.pebr_core.specs.declared.kinds.ShieldAt.TheVariants as shield
use Rattle.pebr_words.proofs.Signs.{seat_here, seat_signs}
use Rattle.pebr_words.proofs.StepLemmas.{and_true, in_list, is_one, in_known, own_made, stays_known}
use Rattle.pebr_words.proofs.Makes.{kept_same}
use Rattle.pebr_words.proofs.Recalling.{recalls_same, seen_known}
use Rattle.pebr_core.specs.Steps.{after_shield, is_place}
use Rattle.pebr_core.specs.State.{shield_at}

pub shield_by : (shape : Shape) (number place slot : ℕ) (known : Seat) → place < shape.shields → slot < slot_count shape
    → is_out known.status ≡ false → has known.seen slot ≡ true
    → IsMadeBy shape (step.Shield number place slot) number known (λ _. slot + 1)
shield_by shape number place slot known in_place in_slots in' seen core found is_shape sound inside as_known told =
    let seat : Seat = seat_at core number in
    let list = in_list shape core number is_shape sound inside in
    let new : Seat = after_shield place (shield.Set slot) seat in
    let wide : place < length seat.shields =
    subst (λ n. place < n)
    (sym ((sound.shape.each number (subst (λ (s : Shape). number < s.seats) (sym is_shape) inside)).shields
    ∙ ap (λ (s : Shape). s.shields) is_shape)) in_place in
    let here : shield_at new place ≡ shield.Set slot =
    get_or-set_same seat.shields place (shield.Set slot) shield.Down wide in (
      and_true (is_seat core number && is_place core place && is_slot core slot && not (is_out seat.status))
          (has seat.seen slot)
          (and_true (is_seat core number && is_place core place && is_slot core slot) (not (is_out seat.status))
          (and_true (is_seat core number && is_place core place) (is_slot core slot)
          (and_true (is_seat core number) (is_place core place) (is_one shape core number is_shape sound inside)
          (lt-ltb place core.shape.shields (subst (λ (s : Shape). place < s.shields) (sym is_shape) in_place)))
          (lt-ltb slot (slot_count core.shape) (subst (λ (s : Shape). slot < slot_count s) (sym is_shape) in_slots)))
          (ap not (in_known known seat in' as_known)))
          (ap (λ l. has l slot) (seen_known known seat as_known) ∙ seen),
      own_made core (step.Shield number place slot) found (slot + 1) known new list
          (sym (ap (λ (s : Seat). shield_number (shield_at s place)) (seat_here core number new list)
          ∙ ap shield_number here))
          (λ q apart. seat_signs core number new list q (λ _. refl)
          (λ k is. ap shield_number
          (get_or-set_other seat.shields place k (shield.Set slot) shield.Down
          (λ same. apart (is ∙ ap (shield_word number) same)))))
          (stays_known (after_shield place (shield.Set slot)) (λ s status. refl) (λ s. refl) known seat as_known)
          (λ epoch h. h)
          refl,
    )

pub shield_kept : {N A : Type 0} (keeps : List (List ℕ) → List N → Type 0)
    (whole : List N → List ℕ → Type 0)
    (after_act : N → A → N) {shape : Shape} (number place slot : ℕ) {known : Seat} {past : History} (note : N)
    (left : ℕ → ℕ)
    → IsKeptBy keeps whole after_act shape (step.Shield number place slot) None number known past note left
shield_kept keeps whole after_act number place slot note left =
    kept_same keeps whole after_act (step.Shield number place slot) None number note left (λ core. refl) (λ core. refl)
    (λ found. refl) (λ shape found s h. h)

pub shield_recalled : {shape : Shape} (number place slot : ℕ) {known : Seat} {past : History} (left : ℕ → ℕ)
    → IsRecalledBy shape (step.Shield number place slot) number known past left
shield_recalled number place slot left =
    recalls_same (step.Shield number place slot) number left (λ a. refl) (λ a. refl) (λ a. refl)
    (λ core found before one. refl) (λ shape found s h. h) (λ j root e. cc) (λ i s word value e. cc)
    (λ i root old new e. cc)
