-- A scanning seat that has another not passed.
use Rattle.std.proofs.Common.{◌≡◌, ℕ, ◌<◌, true, false, ap, ◌∙◌}
use Rattle.std.specs.Prelude.{◌&&◌, not, Some, is_some, unwrap_or}
use Rattle.pebr_core.specs.declared.kinds.Shape.{Shape}
use Rattle.pebr_core.specs.State.{State, Seat, seat_at, has, Scan, scan_of, no_scan}
use Rattle.pebr_core.specs.Steps.{is_seat, is_scanning}
use Rattle.pebr_core.specs.Kept.{IsSound}
use Rattle.pebr_words.proofs.StepLemmas.{and_true, is_one}

-- a scanning seat that has the other not passed
module _ (shape : Shape) (core : State) (number other : ℕ) (known : Seat) (scan : Scan) (is_shape : core.shape ≡ shape)
    (sound : IsSound core)
    (inside : number < shape.seats) (is_other : other < shape.seats) (same : seat_at core number ≡ known)
    (scans : known.scan ≡ Some scan) (unpassed : has scan.passed other ≡ false) where
  pub scan_at : scan_of (seat_at core number) ≡ scan
  scan_at = ap (λ (s : Seat). unwrap_or s.scan no_scan) same ∙ ap (λ s. unwrap_or s no_scan) scans

  pub both_seats : (is_seat core number && is_seat core other) ≡ true
  both_seats = and_true (is_seat core number) (is_seat core other) (is_one shape core number is_shape sound inside)
      (is_one shape core other is_shape sound is_other)

  pub open_scan : (is_seat core number && is_seat core other && is_scanning (seat_at core number)) ≡ true
  open_scan = and_true (is_seat core number && is_seat core other) (is_scanning (seat_at core number)) both_seats
      (ap (λ (s : Seat). is_some s.scan) same ∙ ap is_some scans)

  pub not_passed : not (has (scan_of (seat_at core number)).passed other) ≡ true
  not_passed = ap not (ap (λ (s : Scan). has s.passed other) scan_at ∙ unpassed)
