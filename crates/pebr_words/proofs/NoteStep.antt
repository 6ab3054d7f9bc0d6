-- The step Note by itself.
use Rattle.std.proofs.Common.{◌≡◌, ℕ, List, ◌<◌, ◌≤◌, le_refl, true, length, sym, refl, ap, ◌∙◌, subst, inl, inr}
use Rattle.std.specs.Prelude.{None}
use Rattle.pebr_core.specs.declared.kinds.Shape.{Shape}
use Rattle.pebr_core.specs.declared.kinds.Answer.{Answer}
use Rattle.pebr_core.specs.State.{State, Seat, seat_at, is_out, slot_count}
use Rattle.pebr_core.specs.Steps.{after, after_note, is_seat, last_epoch}
use Rattle.pebr_words.specs.Making.{IsAsKnown, IsStepOf}
use Rattle.pebr_words.specs.Facts.{IsMade, IsMadeBy, IsKeptBy, IsRecalledBy}
use Rattle.pebr_words.specs.Pasts.{History}
use Rattle.pebr_core.specs.Frames.{seat_of}
use Rattle.pebr_core.specs.declared.kinds.Step.{Step}
use Rattle.pebr_core.specs.declared.kinds.Step.TheVariants as step
use Rattle.pebr_core.specs.declared.kinds.Answer.TheVariants as answer
use Rattle.pebr_words.proofs.Signs.{seat_here, seat_there, seat_signs}
use Rattle.pebr_words.proofs.StepLemmas.{and_true, out_known, not_ejected, in_list, is_one}
use Rattle.pebr_words.proofs.Makes.{kept_same}
use Rattle.pebr_words.proofs.Recalling.{recalls_same}

pub note_made : (core : State) (i : ℕ) (known : Seat) → i < length core.seats → is_out known.status ≡ true
    → IsAsKnown known (seat_at core i)
    → IsMade core (after core (step.Note i)) (step.Note i) core.epoch core.epoch known
note_made core i known inside out as_known =
    let same = out_known known (seat_at core i) out as_known in
    let new : Seat = after_note core.shape core.epoch (seat_at core i) in record {
      shape = refl;
      told = refl;
      signs = λ q apart. seat_signs core i new inside q (λ _. refl) (λ k _. refl);
      own = inl (seat_here core i new inside ∙ ap (after_note core.shape core.epoch) same);
      others = λ j other apart h. subst (IsAsKnown other) (sym (seat_there core i j new apart)) h;
      epoch = le_refl core.epoch;
      ejected = λ j epoch now. inl (not_ejected core i new inside (λ _ h. h) j epoch now);
      answered = refl;
    }

pub note_by : (shape : Shape) (number : ℕ) (known : Seat) → is_out known.status ≡ true
    → IsMadeBy shape (step.Note number) number known (λ n. n)
note_by shape number known out core found is_shape sound inside as_known told =
    let same = out_known known (seat_at core number) out as_known in (
      and_true (is_seat core number) (is_out (seat_at core number).status)
          (is_one shape core number is_shape sound inside) (ap (λ (s : Seat). is_out s.status) same ∙ out),
      subst (λ n. IsMade core (after core (step.Note number)) (step.Note number) n n known) (sym told)
          (note_made core number known (in_list shape core number is_shape sound inside) out as_known),
    )

pub note_kept : {N A : Type 0} (keeps : List (List ℕ) → List N → Type 0)
    (whole : List N → List ℕ → Type 0)
    (after_act : N → A → N) {shape : Shape} (number : ℕ) {known : Seat} {past : History} (note : N) (left : ℕ → ℕ)
    → IsKeptBy keeps whole after_act shape (step.Note number) None number known past note left
note_kept keeps whole after_act number note left =
    kept_same keeps whole after_act (step.Note number) None number note left (λ core. refl) (λ core. refl)
    (λ found. refl) (λ shape found slot h. h)

pub note_recalled : {shape : Shape} (number : ℕ) {known : Seat} {past : History} (left : ℕ → ℕ)
    → IsRecalledBy shape (step.Note number) number known past left
note_recalled number left = recalls_same (step.Note number) number left (λ a. refl) (λ a. refl) (λ a. refl)
    (λ core found before one. refl) (λ shape found slot h. h) (λ j root e. cc) (λ i slot word value e. cc)
    (λ i root old new e. cc)

-- an epoch that was noted is at most the last
pub noted_low : {shape : Shape} {i n : ℕ} {old new : Seat} → IsStepOf shape (step.Note i) (answer.Epoch n) old new
    → n ≤ last_epoch
noted_low {n = n} made = subst (λ e. e ≤ last_epoch)
    (same n made.core.epoch (sym made.answered)) made.sound.kept.epochs.epoch
  where
    same : (a b : ℕ) → answer.Epoch b ≡ answer.Epoch a → b ≡ a
    same a b e = cc

-- a seat has a mark for each slot
pub retired_long : {shape : Shape} {s : Step} {a : Answer} {old new : Seat} → IsStepOf shape s a old new
    → seat_of s < shape.seats → length old.retired ≡ slot_count shape
retired_long {shape} {s} {a} {old} made inside =
    ap length (sym (retired_known old (seat_at made.core (seat_of s)) made.before))
    ∙ ((made.sound.shape.each (seat_of s)
    (subst (λ (sh : Shape). seat_of s < sh.seats) (sym made.shape_is) inside)).retired ∙ ap slot_count made.shape_is)
  where
    retired_known : (known actual : Seat) → IsAsKnown known actual → actual.retired ≡ known.retired
    retired_known known actual (inl same) = ap (λ (t : Seat). t.retired) same
    retired_known known actual (inr (epoch, was_in, now)) = ap (λ (t : Seat). t.retired) now
