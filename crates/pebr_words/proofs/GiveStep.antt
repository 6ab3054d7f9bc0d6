-- The step Give by itself.
use Rattle.std.proofs.Common.{◌≡◌, ℕ, zero, suc, List, [], ◌∷◌, Bool, true, sym, refl, ap, ◌∙◌, inl}
use Rattle.std.proofs.lemmas.Bool.{false≢true}
use Rattle.std.specs.Prelude.{◌&&◌, Some, is_some, unwrap_or, None}
use Rattle.pebr_core.specs.declared.kinds.Shape.{Shape}
use Rattle.pebr_core.specs.State.{Seat, seat_at, has, Scan, scan_of, no_scan}
use Rattle.pebr_core.specs.Steps.{is_seat, is_scanning}
use Rattle.pebr_words.specs.Making.{answer_found}
use Rattle.pebr_words.specs.Facts.{IsMadeBy, IsKeptBy, IsRecalledBy}
use Rattle.pebr_words.specs.Pasts.{History}
use Rattle.pebr_core.specs.declared.kinds.Step.TheVariants as step
use Rattle.pebr_words.proofs.Signs.{seat_signs}
use Rattle.pebr_words.proofs.StepLemmas.{and_true, in_list, is_one, scans_known, own_made}
use Rattle.pebr_words.proofs.Makes.{kept_same}
use Rattle.pebr_words.proofs.Recalling.{recalls_same}
use Rattle.pebr_core.specs.Steps.{after_give, is_complete, given_slots, union_of}
use Rattle.pebr_core.specs.State.{is_down}
use Rattle.std.specs.List.{list_all}
use Rattle.std.specs.Prelude.{◌||◌}

-- what was fresh still is
still_fresh : (marks others : List Bool) (slot : ℕ) → has marks slot ≡ true → has (union_of marks others) slot ≡ true
still_fresh [] others slot h = absurd (false≢true h)
still_fresh (m ∷ ms) [] slot h = h
still_fresh (m ∷ ms) (o ∷ os) zero h = ap (λ b. b || o) h
still_fresh (m ∷ ms) (o ∷ os) (suc slot) h = still_fresh ms os slot h

pub give_by : (shape : Shape) (number : ℕ) (known : Seat) (scan : Scan) → known.scan ≡ Some scan
    → is_complete shape number scan ≡ true → list_all is_down known.shields ≡ true
    → IsMadeBy shape (step.Give number) number known (λ n. n)
give_by shape number known scan scans complete down core found is_shape sound inside as_known told =
    let seat : Seat = seat_at core number in
    let same = scans_known core number known scan sound scans as_known in
    let list = in_list shape core number is_shape sound inside in
    let new : Seat = after_give core.epoch seat in
    let scan_is : scan_of seat ≡ scan = ap (λ (s : Seat). unwrap_or s.scan no_scan) same
    ∙ ap (λ s. unwrap_or s no_scan) scans in (
      and_true (is_seat core number && is_scanning seat && is_complete core.shape number (scan_of seat))
          (list_all is_down seat.shields)
          (and_true (is_seat core number && is_scanning seat) (is_complete core.shape number (scan_of seat))
          (and_true (is_seat core number) (is_scanning seat) (is_one shape core number is_shape sound inside)
          (ap (λ (s : Seat). is_some s.scan) same ∙ ap is_some scans))
          (ap (is_complete core.shape number) scan_is ∙ (ap (λ s. is_complete s number scan) is_shape ∙ complete)))
          (ap (λ (s : Seat). list_all is_down s.shields) same ∙ down),
      own_made core (step.Give number) found found known new list
          told
          (λ q _. seat_signs core number new list q (λ _. refl) (λ k _. refl))
          (inl (ap (λ n. after_give n seat) (sym told) ∙ ap (after_give found) same))
          (λ epoch h. h)
          (ap (answer_found (step.Give number) known) told
          ∙ ap (λ (s : Seat). answer_found (step.Give number) s core.epoch) (sym same)),
    )

pub give_kept : {N A : Type 0} (keeps : List (List ℕ) → List N → Type 0)
    (whole : List N → List ℕ → Type 0)
    (after_act : N → A → N) {shape : Shape} (number : ℕ) {known : Seat} {past : History} (note : N) (left : ℕ → ℕ)
    → IsKeptBy keeps whole after_act shape (step.Give number) None number known past note left
give_kept keeps whole after_act number {known} note left =
    kept_same keeps whole after_act (step.Give number) None number note left (λ core. refl) (λ core. refl)
    (λ found. refl) (λ shape found slot h. still_fresh known.fresh (given_slots known) slot h)

pub give_recalled : {shape : Shape} (number : ℕ) {known : Seat} {past : History} (left : ℕ → ℕ)
    → IsRecalledBy shape (step.Give number) number known past left
give_recalled number {known} left = recalls_same (step.Give number) number left (λ a. refl) (λ a. refl) (λ a. refl)
    (λ core found before one. refl) (λ shape found slot h. still_fresh known.fresh (given_slots known) slot h)
    (λ j root e. cc) (λ i slot word value e. cc) (λ i root old new e. cc)
