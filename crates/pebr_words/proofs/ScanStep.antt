-- The step Scan by itself.
use Rattle.std.proofs.Common.{◌≡◌, ℕ, List, ◌+◌, ◌<◌, true, false, sym, refl, ap, ◌∙◌, subst, inl, arith, ne_eqb}
use Rattle.std.proofs.lemmas.Bool.{lt-ltb}
use Rattle.std.specs.Prelude.{◌&&◌, not, if◌then◌else◌, Some, is_some, unwrap_or, None}
use Rattle.pebr_core.specs.declared.kinds.Shape.{Shape}
use Rattle.pebr_core.specs.State.{Seat, seat_at, has, Scan, scan_of, no_scan}
use Rattle.pebr_core.specs.Steps.{with_seat, is_seat, is_scanning}
use Rattle.pebr_words.specs.Places.{Place, shield_word}
use Rattle.pebr_words.specs.Shown.{Tells, sign_at, shield_number}
use Rattle.pebr_words.specs.Facts.{IsMadeBy, IsKeptBy, IsRecalledBy}
use Rattle.pebr_words.specs.Pasts.{History}
use Rattle.pebr_core.specs.declared.kinds.Step.TheVariants as step
use Rattle.pebr_core.specs.declared.kinds.ShieldAt.TheVariants as shield
use Rattle.pebr_words.proofs.Signs.{seat_signs}
use Rattle.pebr_words.proofs.StepLemmas.{and_true, in_list, is_one, scans_known, own_made}
use Rattle.pebr_words.proofs.Makes.{kept_same}
use Rattle.pebr_words.proofs.Recalling.{recalls_same}
use Rattle.pebr_core.specs.Steps.{after_scan, is_place, found_under}
use Rattle.pebr_core.specs.State.{shield_at, has_scanned, slot_under}
use Rattle.pebr_core.specs.declared.kinds.ShieldAt.{ShieldAt}
use Rattle.pebr_words.specs.Making.{slot_from}
use Rattle.std.proofs.Common.{◌-◌}

set_is : (slot : ℕ) → slot_from (slot + 1) ≡ Some slot
set_is slot = ap (λ b. if b then None else Some (slot + 1 - 1)) (ne_eqb (slot + 1) 0 (λ e. omega (arith, e)))
    ∙ ap (λ n. Some n) (let e : slot + 1 - 1 ≡ slot = omega arith in e)

-- what a shield word tells of the slot under the shield
slot_told : (at : ShieldAt) (found : ℕ) → found ≡ shield_number at → slot_from found ≡ slot_under at
slot_told shield.Down found is = ap slot_from is
slot_told (shield.Set slot) found is = ap slot_from is ∙ set_is slot
slot_told (shield.Valid slot) found is = ap slot_from is ∙ set_is slot

pub scan_by : (shape : Shape) (number other place : ℕ) (known : Seat) (scan : Scan) → other < shape.seats
    → place < shape.shields → known.scan ≡ Some scan → has scan.passed other ≡ true
    → has_scanned scan other place ≡ false
    → IsMadeBy shape (step.Scan number other place) number known (λ n. n)
scan_by shape number other place known scan is_other in_place scans passed unread core found is_shape sound inside
    as_known told =
    let seat : Seat = seat_at core number in
    let same = scans_known core number known scan sound scans as_known in
    let list = in_list shape core number is_shape sound inside in
    let at : ShieldAt = shield_at (seat_at core other) place in
    let new : Seat = after_scan other place (slot_under at) seat in
    let is : slot_from found ≡ slot_under at = slot_told at found told in
    let scan_is : scan_of seat ≡ scan = ap (λ (s : Seat). unwrap_or s.scan no_scan) same
    ∙ ap (λ s. unwrap_or s no_scan) scans in
    let signs : (q : Place) → sign_at (with_seat core number new) q ≡ sign_at core q =
    λ q. seat_signs core number new list q (λ _. refl) (λ k _. refl) in (
      and_true (is_seat core number && is_seat core other && is_place core place && is_scanning seat && has
          (scan_of seat).passed other) (not (has_scanned (scan_of seat) other place))
          (and_true (is_seat core number && is_seat core other && is_place core place && is_scanning seat)
          (has (scan_of seat).passed other)
          (and_true (is_seat core number && is_seat core other && is_place core place) (is_scanning seat)
          (and_true (is_seat core number && is_seat core other) (is_place core place)
          (and_true (is_seat core number) (is_seat core other) (is_one shape core number is_shape sound inside)
          (is_one shape core other is_shape sound is_other))
          (lt-ltb place core.shape.shields (subst (λ (s : Shape). place < s.shields) (sym is_shape) in_place)))
          (ap (λ (s : Seat). is_some s.scan) same ∙ ap is_some scans))
          (ap (λ (s : Scan). has s.passed other) scan_is ∙ passed))
          (ap not (ap (λ (s : Scan). has_scanned s other place) scan_is ∙ unread)),
      own_made core (step.Scan number other place) found found known new list
          (subst (λ s. Tells s found) (sym (signs (shield_word other place))) told)
          (λ q _. signs q)
          (inl (ap (λ o. after_scan other place o seat) (sym is) ∙ ap (after_scan other place (slot_from found)) same))
          (λ epoch h. h)
          (ap found_under is),
    )

pub scan_kept : {N A : Type 0} (keeps : List (List ℕ) → List N → Type 0)
    (whole : List N → List ℕ → Type 0)
    (after_act : N → A → N) {shape : Shape} (number other place : ℕ) {known : Seat} {past : History} (note : N)
    (left : ℕ → ℕ)
    → IsKeptBy keeps whole after_act shape (step.Scan number other place) None number known past note left
scan_kept keeps whole after_act number other place note left =
    kept_same keeps whole after_act (step.Scan number other place) None number note left (λ core. refl) (λ core. refl)
    (λ found. refl) (λ shape found slot h. h)

pub scan_recalled : {shape : Shape} (number other place : ℕ) {known : Seat} {past : History} (left : ℕ → ℕ)
    → IsRecalledBy shape (step.Scan number other place) number known past left
scan_recalled number other place left = recalls_same (step.Scan number other place) number left (λ a. refl) (λ a. refl)
    (λ a. refl) (λ core found before one. refl) (λ shape found slot h. h) (λ j root e. cc) (λ i slot word value e. cc)
    (λ i root old new e. cc)
