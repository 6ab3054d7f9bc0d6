-- The step Advance by itself.
use Rattle.std.proofs.Common.{◌≡◌, ◌≢◌, ℕ, List, ◌+◌, ◌<◌, Bool, true, false, sym, refl, ap, ◌∙◌, subst, inl, arith}
use Rattle.std.proofs.Common.{eqb, ltb, eq-eqb, ne_eqb}
use Rattle.std.proofs.lemmas.Bool.{lt-ltb}
use Rattle.std.specs.Prelude.{if◌then◌else◌, ◌==◌, None}
use mathlib.Core.Logic.{dite}
use native.Mathlib.Decide.{ℕ_discrete}
use prog.Atomic.{either}
use Rattle.pebr_core.specs.declared.kinds.Shape.{Shape}
use Rattle.pebr_core.specs.declared.kinds.Answer.{Answer}
use Rattle.pebr_core.specs.State.{State, Seat, seat_at}
use Rattle.pebr_core.specs.Steps.{after, is_seat, last_epoch, answer_of}
use Rattle.pebr_words.specs.Places.{Place, epoch_word, status_word, shield_word, root_word, slot_word}
use Rattle.pebr_words.specs.Shown.{sign_at}
use Rattle.pebr_words.specs.Making.{IsAsKnown, answer_found}
use Rattle.pebr_words.specs.Ruled.{contents}
use Rattle.pebr_words.specs.Facts.{IsMade, IsMadeBy, IsKeptBy, IsRecalledBy}
use Rattle.pebr_words.specs.Pasts.{History}
use Rattle.pebr_core.specs.declared.kinds.Step.TheVariants as step
use Rattle.pebr_core.specs.declared.kinds.Answer.TheVariants as answer
use Rattle.pebr_words.proofs.StepLemmas.{and_true, is_one, noted_known}
use Rattle.pebr_words.proofs.Makes.{kept_same}
use Rattle.pebr_words.proofs.Recalling.{recalls_same}

abbrev raised : State → State
raised core = record core { epoch = core.epoch + 1 }

raised_signs : (core : State) (q : Place) → q ≢ epoch_word → sign_at (raised core) q ≡ sign_at core q
raised_signs core epoch_word apart = absurd (apart refl)
raised_signs core (status_word j) apart = refl
raised_signs core (shield_word j k) apart = refl
raised_signs core (root_word r) apart = refl
raised_signs core (slot_word slot word) apart = refl

module _ (core : State) (i : ℕ) (known : Seat) (as_known : IsAsKnown known (seat_at core i)) where
  abbrev Advanced : Bool → Bool → ℕ → Type 0
  Advanced was b noted = IsMade core (if was then raised core else core) (step.Advance i) core.epoch
      (either b (noted + 1) core.epoch) known

  noted_is : (seat_at core i).noted ≡ known.noted
  noted_is = noted_known known (seat_at core i) as_known

  answered : answer_found (step.Advance i) known core.epoch ≡ answer_of core (step.Advance i)
  answered =
      let Found : ℕ → ℕ → Answer = λ n m. if core.epoch == n then answer.Epoch (m + 1) else answer.Lost in
      let noted : ℕ = (seat_at core i).noted in
      ap (λ n. Found n n) (sym noted_is)
      ∙ dite (ℕ_discrete core.epoch noted)
      (λ (hit : core.epoch ≡ noted). ap (Found noted) (sym hit))
      (λ (miss : core.epoch ≢ noted). let e = ne_eqb core.epoch noted miss in
      ap (λ b. if b then answer.Epoch (noted + 1) else answer.Lost) e
      ∙ sym (ap (λ b. if b then answer.Epoch (core.epoch + 1) else answer.Lost) e))

  advanced : Advanced true true core.epoch
  advanced =
      record {
        shape = refl;
        told = refl;
        signs = raised_signs core;
        own = as_known;
        others =
            λ j other apart h. h;
        epoch = omega arith;
        ejected = λ j epoch now. inl now;
        answered = answered;
      }

  lost : (noted : ℕ) → Advanced false false noted
  lost noted =
      record {
        shape = refl;
        told = refl;
        signs = λ q apart. refl;
        own = as_known;
        others =
            λ j other apart h. h;
        epoch = omega arith;
        ejected = λ j epoch now. inl now;
        answered = answered;
      }

  pub advance_made : IsMade core (after core (step.Advance i)) (step.Advance i) core.epoch
      (either (eqb core.epoch known.noted) (known.noted + 1) core.epoch) known
  advance_made =
      let is : eqb core.epoch (seat_at core i).noted ≡ eqb core.epoch known.noted = ap (eqb core.epoch) noted_is in
      subst (λ b. Advanced b (eqb core.epoch known.noted) known.noted) (sym is)
      (dite (ℕ_discrete core.epoch known.noted)
      (λ (hit : core.epoch ≡ known.noted). let e = eq-eqb core.epoch known.noted hit in
      subst (λ b. Advanced b b known.noted) (sym e) (subst (Advanced true true) hit advanced))
      (λ (miss : core.epoch ≢ known.noted). let e = ne_eqb core.epoch known.noted miss in
      subst (λ b. Advanced b b known.noted) (sym e) (lost known.noted)))

pub advance_by : (shape : Shape) (number noted : ℕ) (known : Seat) → known.noted ≡ noted → known.noted < last_epoch
    → IsMadeBy shape (step.Advance number) number known (λ n. either (eqb n noted) (noted + 1) n)
advance_by shape number noted known is_noted low core found is_shape sound inside as_known told = (
  and_true (is_seat core number) (ltb (seat_at core number).noted last_epoch)
      (is_one shape core number is_shape sound inside)
      (lt-ltb (seat_at core number).noted last_epoch
      (subst (λ n. n < last_epoch) (sym (noted_known known (seat_at core number) as_known)) low)),
  subst (λ n. IsMade core (after core (step.Advance number)) (step.Advance number) found
      (either (eqb found n) (n + 1) found) known) is_noted
      (subst (λ n. IsMade core (after core (step.Advance number)) (step.Advance number) n
      (either (eqb n known.noted) (known.noted + 1) n) known) (sym told)
      (advance_made core number known as_known)),
)

pub advance_contents : (number : ℕ) (core : State) → contents (after core (step.Advance number)) ≡ contents core
advance_contents number core = pick (eqb core.epoch (seat_at core number).noted)
  where
    pick : (b : Bool) → contents (if b then raised core else core) ≡ contents core
    pick true = refl
    pick false = refl

advance_words : (number : ℕ) (core : State) → (after core (step.Advance number)).words ≡ core.words
advance_words number core = pick (eqb core.epoch (seat_at core number).noted)
  where
    pick : (b : Bool) → (if b then raised core else core).words ≡ core.words
    pick true = refl
    pick false = refl

pub advance_kept : {N A : Type 0} (keeps : List (List ℕ) → List N → Type 0)
    (whole : List N → List ℕ → Type 0)
    (after_act : N → A → N) {shape : Shape} (number : ℕ) {known : Seat} {past : History} (note : N) (left : ℕ → ℕ)
    → IsKeptBy keeps whole after_act shape (step.Advance number) None number known past note left
advance_kept keeps whole after_act number note left =
    kept_same keeps whole after_act (step.Advance number) None number note left (advance_contents number)
    (advance_words number) (λ found. refl) (λ shape found slot h. h)

pub advance_recalled : {shape : Shape} (number : ℕ) {known : Seat} {past : History} (left : ℕ → ℕ)
    → IsRecalledBy shape (step.Advance number) number known past left
advance_recalled number left = recalls_same (step.Advance number) number left (λ a. refl) (λ a. refl) (λ a. refl)
    (λ core found before one. refl) (λ shape found slot h. h) (λ j root e. cc) (λ i slot word value e. cc)
    (λ i root old new e. cc)
