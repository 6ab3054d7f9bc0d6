-- What a seat knows of its scan after a step of it.
use Rattle.std.proofs.Common.{◌≡◌, ℕ, ◌<◌, Bool, true, false, [], get_or, set, sym, refl, ap, ◌∙◌, subst}
use Rattle.std.proofs.lemmas.List.{get_or-set_same}
use Rattle.std.specs.Prelude.{Option, Some, None, if◌then◌else◌}
use Rattle.pebr_core.specs.declared.kinds.Shape.{Shape}
use Rattle.pebr_core.specs.State.{Seat, has, scan_of, found_at, has_scanned}
use Rattle.pebr_core.specs.Steps.{after_pass, after_scan, with_scanned, with_kept, is_scanning}
use Rattle.pebr_core.specs.Kept.{IsSeatOfShape, IsScanOfShape}
use Rattle.pebr_words.specs.declared.looked.Looked.{Looked}
use Rattle.pebr_words.specs.declared.looked.Looked.TheVariants as looked
use Rattle.pebr_words.specs.Mirrors.{looked_from}
use Rattle.pebr_words.proofs.Mirroring.{has_scan}

module _ (shape : Shape) (known : Seat) (fits : IsSeatOfShape shape known) (scanning : is_scanning known ≡ true) where
  scan_fits : IsScanOfShape shape (scan_of known)
  scan_fits = fits.scan (scan_of known) (has_scan known scanning)

  pub passed_here : (other : ℕ) → other < shape.seats → has (scan_of (after_pass other known)).passed other ≡ true
  passed_here other low = get_or-set_same (scan_of known).passed other true false
      (subst (λ n. other < n) (sym scan_fits.passed) low)

  pub looked_passed : (other : ℕ) (result : Looked) → other < shape.seats → result ≡ looked.Passed
      → has (scan_of (looked_from other result known)).passed other ≡ true
  looked_passed other result low is = ap (λ r. has (scan_of (looked_from other r known)).passed other) is
      ∙ passed_here other low

  pub looked_found : (other epoch : ℕ) (result : Looked) → other < shape.seats → result ≡ looked.In epoch
      → found_at (scan_of (looked_from other result known)) other ≡ Some epoch
  looked_found other epoch result low is = ap (λ r. found_at (scan_of (looked_from other r known)) other) is
      ∙ get_or-set_same (scan_of known).looked other (Some epoch) None
      (subst (λ n. other < n) (sym scan_fits.looked) low)

  pub scanned_here : (other place : ℕ) (slot : Option ℕ) → other < shape.seats → place < shape.shields
      → has_scanned (scan_of (after_scan other place slot known)) other place ≡ true
  scanned_here other place slot low in_place =
      kept_same slot
      ∙ (ap (λ l. has l place)
      (get_or-set_same (scan_of known).scanned other (set (get_or (scan_of known).scanned other []) place true) []
      (subst (λ n. other < n) (sym scan_fits.scanned) low))
      ∙ get_or-set_same (get_or (scan_of known).scanned other []) place true false
      (subst (λ n. place < n) (sym (scan_fits.shields other low)) in_place))
    where
      kept_same : (slot : Option ℕ) → has_scanned
          (with_kept (with_scanned (scan_of known) other place) slot) other place
          ≡ has_scanned (with_scanned (scan_of known) other place) other place
      kept_same None = refl
      kept_same (Some s) = pick (has (scan_of known).candidates s)
        where
          pick : (b : Bool)
              → has_scanned
              (if b then record (with_scanned (scan_of known) other place) { kept = set (scan_of known).kept s true }
              else with_scanned (scan_of known) other place) other place
              ≡ has_scanned (with_scanned (scan_of known) other place) other place
          pick true = refl
          pick false = refl
