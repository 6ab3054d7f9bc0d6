-- The step Look by itself.
use Rattle.std.proofs.Common.{◌≡◌, ◌≢◌, ℕ, List, ◌<◌, le_refl, Bool, true, false, get_or, sym, refl, ap, ◌∙◌, subst}
use Rattle.std.proofs.Common.{inl, ne_eqb}
use Rattle.std.specs.Prelude.{◌&&◌, not, if◌then◌else◌, ◌==◌, Some, None}
use Rattle.pebr_core.specs.declared.kinds.Shape.{Shape}
use Rattle.pebr_core.specs.declared.kinds.Stance.{Stance}
use Rattle.pebr_core.specs.State.{Seat, seat_at, has, Scan, scan_of}
use Rattle.pebr_core.specs.Steps.{with_seat, is_seat, after_look, with_scan, with_passed, with_look, can_pass, epoch_of}
use Rattle.pebr_core.specs.Steps.{is_scanning}
use Rattle.pebr_words.specs.Places.{Place, status_word}
use Rattle.pebr_words.specs.Shown.{Tells, sign_at, shield_number}
use Rattle.pebr_words.specs.Making.{IsAsKnown, answer_found, stance_from}
use Rattle.pebr_words.specs.Facts.{IsMadeBy, IsKeptBy, IsRecalledBy}
use Rattle.pebr_words.specs.Pasts.{History}
use Rattle.pebr_core.specs.declared.kinds.Step.TheVariants as step
use Rattle.pebr_core.specs.declared.kinds.Answer.TheVariants as answer
use Rattle.pebr_core.specs.declared.kinds.ShieldAt.TheVariants as shield
use Rattle.pebr_words.proofs.Signs.{seat_here, seat_there, seat_signs}
use Rattle.pebr_words.proofs.StepLemmas.{and_true, not_ejected, in_list, scans_known}
use Rattle.pebr_words.proofs.Makes.{kept_same}
use Rattle.pebr_words.proofs.Recalling.{recalls_same}
use Rattle.pebr_words.proofs.Scanning.{open_scan, not_passed}
use Rattle.pebr_words.proofs.Stances.{stance_told}

look_status : (j : ℕ) (s : Stance) (seat : Seat) → (after_look j s seat).status ≡ seat.status
look_status j s seat = pick (can_pass (scan_of seat).candidates seat.retired s)
  where
    pick : (b : Bool)
        → (if b then with_scan seat (with_passed (scan_of seat) j)
        else with_scan seat (with_look (scan_of seat) j (epoch_of s))).status ≡ seat.status
    pick true = refl
    pick false = refl

look_shields : (j : ℕ) (s : Stance) (seat : Seat) → (after_look j s seat).shields ≡ seat.shields
look_shields j s seat = pick (can_pass (scan_of seat).candidates seat.retired s)
  where
    pick : (b : Bool)
        → (if b then with_scan seat (with_passed (scan_of seat) j)
        else with_scan seat (with_look (scan_of seat) j (epoch_of s))).shields ≡ seat.shields
    pick true = refl
    pick false = refl

look_fresh : (j : ℕ) (s : Stance) (seat : Seat) (slot : ℕ) → has seat.fresh slot ≡ true
    → has (after_look j s seat).fresh slot ≡ true
look_fresh j s seat slot h = pick (can_pass (scan_of seat).candidates seat.retired s)
  where
    pick : (b : Bool)
        → has (if b then with_scan seat (with_passed (scan_of seat) j)
        else with_scan seat (with_look (scan_of seat) j (epoch_of s))).fresh slot ≡ true
    pick true = h
    pick false = h

pub look_by : (shape : Shape) (number other : ℕ) (known : Seat) (scan : Scan) → other < shape.seats → other ≢ number
    → known.scan ≡ Some scan → has scan.passed other ≡ false
    → IsMadeBy shape (step.Look number other) number known (λ n. n)
look_by shape number other known scan is_other apart scans unpassed core found is_shape sound inside as_known told =
    let same = scans_known core number known scan sound scans as_known in
    let inside_list = in_list shape core number is_shape sound inside in
    let new : Seat = after_look other (seat_at core other).status (seat_at core number) in
    let is : stance_from found ≡ (seat_at core other).status = stance_told (seat_at core other).status found told in
    let signs : (q : Place) → sign_at (with_seat core number new) q ≡ sign_at core q =
    λ q. seat_signs core number new inside_list q
    (λ _. look_status other (seat_at core other).status (seat_at core number))
    (λ k _. ap (λ l. shield_number (get_or l k shield.Down))
    (look_shields other (seat_at core other).status (seat_at core number))) in (
      and_true (is_seat core number && is_seat core other && is_scanning (seat_at core number) && not (other == number))
          (not (has (scan_of (seat_at core number)).passed other))
          (and_true (is_seat core number && is_seat core other && is_scanning (seat_at core number))
          (not (other == number))
          (open_scan shape core number other known scan is_shape sound inside is_other same scans unpassed)
          (ap not (ne_eqb other number apart)))
          (not_passed shape core number other known scan is_shape sound inside is_other same scans unpassed),
      record {
        shape = refl;
        told = subst (λ s. Tells s found) (sym (signs (status_word other))) told;
        signs = λ q _. signs q;
        own = inl (seat_here core number new inside_list
            ∙ (ap (λ s. after_look other s (seat_at core number)) (sym is)
            ∙ ap (after_look other (stance_from found)) same));
        others = λ j seat ne h. subst (IsAsKnown seat) (sym (seat_there core number j new ne)) h;
        epoch = le_refl core.epoch;
        ejected =
            λ j epoch now. inl
            (not_ejected core number new inside_list
            (λ epoch h. sym (look_status other (seat_at core other).status (seat_at core number)) ∙ h) j epoch now);
        answered = ap (λ (s : Seat). answer_found (step.Look number other) s found) (sym same)
            ∙ ap (λ s. if can_pass (scan_of (seat_at core number)).candidates (seat_at core number).retired s
            then answer.Passed else answer.In (epoch_of s)) is;
      },
    )

pub look_kept : {N A : Type 0} (keeps : List (List ℕ) → List N → Type 0)
    (whole : List N → List ℕ → Type 0)
    (after_act : N → A → N) {shape : Shape} (number other : ℕ) {known : Seat} {past : History} (note : N) (left : ℕ → ℕ)
    → IsKeptBy keeps whole after_act shape (step.Look number other) None number known past note left
look_kept keeps whole after_act number other {known} note left =
    kept_same keeps whole after_act (step.Look number other) None number note left (λ core. refl) (λ core. refl)
    (λ found. refl) (λ shape found slot h. look_fresh other (stance_from found) known slot h)

pub look_recalled : {shape : Shape} (number other : ℕ) {known : Seat} {past : History} (left : ℕ → ℕ)
    → IsRecalledBy shape (step.Look number other) number known past left
look_recalled number other {known} left =
    recalls_same (step.Look number other) number left (λ a. refl) (λ a. refl) (λ a. refl)
    (λ core found before one. refl) (λ shape found slot h. look_fresh other (stance_from found) known slot h)
    (λ j root e. cc) (λ i slot word value e. cc) (λ i root old new e. cc)
