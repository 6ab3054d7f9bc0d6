-- The step Pin by itself.
use Rattle.std.proofs.Common.{◌≡◌, ℕ, List, ◌+◌, ◌*◌, ◌<◌, le_refl, true, length, sym, refl, ap, ◌∙◌, subst, inl}
use Rattle.std.specs.Prelude.{None}
use Rattle.pebr_core.specs.declared.kinds.Shape.{Shape}
use Rattle.pebr_core.specs.State.{State, Seat, seat_at, is_out, has}
use Rattle.pebr_core.specs.Steps.{after, after_pin, is_seat}
use mathlib.Core.Option.{some-ne-none}
use Rattle.pebr_words.specs.Shown.{of_status, Tells}
use Rattle.pebr_words.specs.Making.{IsAsKnown}
use Rattle.pebr_words.specs.Facts.{IsMade, IsMadeBy, IsKeptBy, IsRecalledBy}
use Rattle.std.proofs.lemmas.Option.{none-some}
use Rattle.pebr_words.specs.Pasts.{History}
use Rattle.pebr_core.specs.declared.kinds.Step.TheVariants as step
use Rattle.pebr_core.specs.declared.kinds.Stance.TheVariants as stance
use Rattle.pebr_core.specs.declared.kinds.Answer.TheVariants as answer
use Rattle.pebr_words.proofs.Signs.{seat_here, seat_there, seat_signs}
use Rattle.pebr_words.proofs.StepLemmas.{and_true, out_known, not_ejected, in_list, is_one}
use Rattle.pebr_words.proofs.Makes.{kept_same}
use Rattle.pebr_words.proofs.Recalling.{fresh_known}

pub pin_made : (core : State) (i found : ℕ) (known : Seat) → i < length core.seats → is_out known.status ≡ true
    → IsAsKnown known (seat_at core i)
    → IsMade core (after core (step.Pin i)) (step.Pin i) found (4 * known.noted + 1) known
pin_made core i found known inside out as_known =
    let same = out_known known (seat_at core i) out as_known in
    let new : Seat = after_pin (seat_at core i) in record {
      shape = refl;
      told = subst (λ (s : Seat). Tells (of_status s.status) (4 * known.noted + 1)) (sym (seat_here core i new inside))
          (ap (λ (s : Seat). 4 * s.noted + 1) (sym same));
      signs = λ q apart. seat_signs core i new inside q (λ e. absurd (apart e)) (λ k _. refl);
      own = inl (seat_here core i new inside ∙ ap after_pin same);
      others = λ j other apart h. subst (IsAsKnown other) (sym (seat_there core i j new apart)) h;
      epoch = le_refl core.epoch;
      ejected =
          λ j epoch now. inl
          (not_ejected core i new inside
          (λ _ h. absurd (let e : stance.In (seat_at core i).noted ≡ stance.Ejected _ = h in cc)) j epoch now);
      answered = ap (λ (s : Seat). answer.In s.noted) (sym same);
    }

pub pin_by : (shape : Shape) (number noted : ℕ) (known : Seat) → known.noted ≡ noted → is_out known.status ≡ true
    → IsMadeBy shape (step.Pin number) number known (λ _. 4 * noted + 1)
pin_by shape number noted known is_noted out core found is_shape sound inside as_known told =
    let same = out_known known (seat_at core number) out as_known in (
      and_true (is_seat core number) (is_out (seat_at core number).status)
          (is_one shape core number is_shape sound inside) (ap (λ (s : Seat). is_out s.status) same ∙ out),
      subst (λ n. IsMade core (after core (step.Pin number)) (step.Pin number) found (4 * n + 1) known) is_noted
          (pin_made core number found known (in_list shape core number is_shape sound inside) out as_known),
    )

pub pin_kept : {N A : Type 0} (keeps : List (List ℕ) → List N → Type 0)
    (whole : List N → List ℕ → Type 0)
    (after_act : N → A → N) {shape : Shape} (number : ℕ) {known : Seat} {past : History} (note : N) (left : ℕ → ℕ)
    → IsKeptBy keeps whole after_act shape (step.Pin number) None number known past note left
pin_kept keeps whole after_act number note left =
    kept_same keeps whole after_act (step.Pin number) None number note left (λ core. refl) (λ core. refl)
    (λ found. refl) (λ shape found slot h. h)

-- a pin forgets loads and reads
pub pin_recalled : {shape : Shape} (number : ℕ) {known : Seat} {past : History} (left : ℕ → ℕ)
    → IsRecalledBy shape (step.Pin number) number known past left
pin_recalled number {known} left law core found before = record {
  reads = λ read in_reads used. absurd (some-ne-none read (sym in_reads.1));
  written = λ slot word value e.
      let was = before.recalls.written slot word value e in (
        ap (λ f. has f slot)
            (fresh_known (after_pin known) (seat_at (after core (step.Pin number)) number) before.made.own)
            ∙ (ap (λ f. has f slot) (sym (fresh_known known (seat_at core number) before.as_known)) ∙ was.0),
        was.1,
      );
  shown = λ one root slot e. absurd (none-some slot e);
  lost = before.recalls.lost;
}
