-- What the kinds of step share: what is known of a seat, and what a change of one seat leaves.
use Rattle.std.proofs.Common.{◌≡◌, ◌≢◌, ℕ, ◌<◌, le_refl, Bool, true, false, length, sym, refl, ap, ◌∙◌, subst, inl, inr}
use Rattle.std.proofs.lemmas.Bool.{false≢true, lt-ltb}
use Rattle.std.specs.Prelude.{◌&&◌, Some}
use mathlib.Core.Logic.{dite}
use native.Mathlib.Decide.{ℕ_discrete}
use Rattle.pebr_core.specs.declared.kinds.Shape.{Shape}
use Rattle.pebr_core.specs.declared.kinds.Stance.{Stance}
use Rattle.pebr_core.specs.State.{State, Seat, seat_at, is_out, Scan}
use Rattle.pebr_core.specs.Steps.{with_seat, is_seat, answer_of}
use Rattle.pebr_core.specs.Kept.{IsSound}
use Rattle.pebr_words.specs.Places.{Place}
use Rattle.pebr_words.specs.Shown.{Tells, sign_at}
use Rattle.pebr_words.specs.Making.{IsAsKnown, answer_found, known_after}
use Rattle.pebr_words.specs.Facts.{IsMade}
use Rattle.pebr_core.specs.Frames.{seat_of}
use Rattle.pebr_core.specs.declared.kinds.Stance.TheVariants as stance
use Rattle.pebr_core.specs.declared.kinds.Step.{Step}
use Rattle.pebr_words.specs.Making.{place_of}
use Rattle.pebr_words.proofs.Signs.{seat_here, seat_there}

pub and_true : (a b : Bool) → a ≡ true → b ≡ true → (a && b) ≡ true
and_true true true h h' = refl
and_true true false h h' = h'
and_true false b h h' = h

out_is : (status : Stance) → is_out status ≡ true → status ≡ stance.Out
out_is stance.Out h = refl
out_is (stance.In epoch) h = absurd (false≢true h)
out_is (stance.Ejected epoch) h = absurd (false≢true h)

-- a seat that knows that it is out wasn't ejected since
pub out_known : (known actual : Seat) → is_out known.status ≡ true → IsAsKnown known actual → actual ≡ known
out_known known actual out (inl same) = same
out_known known actual out (inr (epoch, was_in, now)) =
    absurd (let e : stance.Out ≡ stance.In epoch = sym (out_is known.status out) ∙ was_in in cc)

-- a seat that is ejected after one seat changed was ejected before, where the change ejects nobody
pub not_ejected : (core : State) (i : ℕ) (new : Seat) → i < length core.seats
    → ((epoch : ℕ) → new.status ≡ stance.Ejected epoch → (seat_at core i).status ≡ stance.Ejected epoch)
    → (j epoch : ℕ) → (seat_at (with_seat core i new) j).status ≡ stance.Ejected epoch
    → (seat_at core j).status ≡ stance.Ejected epoch
not_ejected core i new inside own j epoch now = dite (ℕ_discrete j i)
    (λ (same : j ≡ i). subst (λ k. (seat_at core k).status ≡ stance.Ejected epoch) (sym same)
    (own epoch (sym (ap (λ (s : Seat). s.status) (seat_here core i new inside))
    ∙ subst (λ k. (seat_at (with_seat core i new) k).status ≡ stance.Ejected epoch) same now)))
    (λ (apart : j ≢ i). sym (ap (λ (s : Seat). s.status) (seat_there core i j new apart)) ∙ now)

module _ (shape : Shape) (core : State) (number : ℕ) (is_shape : core.shape ≡ shape) (sound : IsSound core)
    (inside : number < shape.seats) where
  pub in_list : number < length core.seats
  in_list = subst (λ n. number < n) (sym (sound.shape.seats ∙ ap (λ (s : Shape). s.seats) is_shape)) inside

  pub is_one : is_seat core number ≡ true
  is_one = lt-ltb number core.shape.seats (subst (λ (s : Shape). number < s.seats) (sym is_shape) inside)

-- a seat that knows that it isn't out isn't out, though it may have been ejected since
pub in_known : (known actual : Seat) → is_out known.status ≡ false → IsAsKnown known actual
    → is_out actual.status ≡ false
in_known known actual in' (inl same) = ap (λ (s : Seat). is_out s.status) same ∙ in'
in_known known actual in' (inr (epoch, was_in, now)) = ap (λ (s : Seat). is_out s.status) now

pub noted_known : (known actual : Seat) → IsAsKnown known actual → actual.noted ≡ known.noted
noted_known known actual (inl same) = ap (λ (s : Seat). s.noted) same
noted_known known actual (inr (epoch, was_in, now)) = ap (λ (s : Seat). s.noted) now

-- a seat that knows that it is at a scan wasn't ejected since
pub scans_known : (core : State) (i : ℕ) (known : Seat) (scan : Scan) → IsSound core → known.scan ≡ Some scan
    → IsAsKnown known (seat_at core i) → seat_at core i ≡ known
scans_known core i known scan sound scans (inl same) = same
scans_known core i known scan sound scans (inr (epoch, was_in, now)) =
    let out = (sound.kept.scans i scan (ap (λ (s : Seat). s.scan) now ∙ scans)).out in
    absurd (let e : stance.Ejected epoch ≡ stance.Out = sym (ap (λ (s : Seat). s.status) now) ∙ out in cc)

-- a change of the seat that makes the step alone
pub own_made : (core : State) (s : Step) (found left : ℕ) (known new : Seat) → seat_of s < length core.seats
    → Tells (sign_at (with_seat core (seat_of s) new) (place_of s)) left
    → ((q : Place) → q ≢ place_of s → sign_at (with_seat core (seat_of s) new) q ≡ sign_at core q)
    → IsAsKnown (known_after core.shape s found known) new
    → ((epoch : ℕ) → new.status ≡ stance.Ejected epoch → (seat_at core (seat_of s)).status ≡ stance.Ejected epoch)
    → answer_found s known found ≡ answer_of core s
    → IsMade core (with_seat core (seat_of s) new) s found left known
own_made core s found left known new inside told signs own ejected answered = record {
  shape = refl;
  told = told;
  signs = signs;
  own = subst (IsAsKnown (known_after core.shape s found known)) (sym (seat_here core (seat_of s) new inside)) own;
  others = λ j other apart h. subst (IsAsKnown other) (sym (seat_there core (seat_of s) j new apart)) h;
  epoch = le_refl core.epoch;
  ejected = λ j epoch now. inl (not_ejected core (seat_of s) new inside ejected j epoch now);
  answered = answered;
}

-- a change that doesn't look at the status
pub stays_known : (f : Seat → Seat)
    → ((seat : Seat) (status : Stance) → f (record seat { status = status }) ≡ record (f seat) { status = status })
    → ((seat : Seat) → (f seat).status ≡ seat.status)
    → (known actual : Seat) → IsAsKnown known actual → IsAsKnown (f known) (f actual)
stays_known f apart same known actual (inl e) = inl (ap f e)
stays_known f apart same known actual (inr (epoch, was_in, now)) =
    inr (epoch, same known ∙ was_in, ap f now ∙ apart known (stance.Ejected epoch))

-- but for its status, a seat is as it is known
pub status_known : (known actual : Seat) → IsAsKnown known actual → record known { status = actual.status } ≡ actual
status_known known actual (inl same) = ap (λ (s : Seat). record known { status = s.status }) same ∙ sym same
status_known known actual (inr (epoch, was_in, now)) =
    ap (λ (s : Seat). record known { status = s.status }) now ∙ sym now
