-- The place of the first step that isn't enabled is one of the steps.
use Rattle.std.proofs.Common.{◌≡◌, ◌<◌, ℕ, suc, Bool, true, false, cond, refl, arith, List, [], ◌∷◌, length, Option}
use Rattle.std.proofs.Common.{Some, None}
use Rattle.std.specs.Prelude.{option_map}
use Rattle.pebr_core.specs.State.{State}
use Rattle.pebr_core.specs.Steps.{is_enabled, after}
use Rattle.pebr_core.specs.Runs.{first_refused}
use Rattle.pebr_core.specs.declared.kinds.Step.{Step}

later-place : (found : Option ℕ) (place : ℕ) → option_map (λ p. suc p) found ≡ Some place
    → (p : ℕ) × (found ≡ Some p) × (place ≡ suc p)
later-place None place is = absurd (cc)
later-place (Some p) place is = (p, refl, cc)

place-step : (enabled : Bool) (found : Option ℕ) (count place : ℕ) → ((p : ℕ) → found ≡ Some p → p < count)
    → cond enabled (option_map (λ p. suc p) found) (Some 0) ≡ Some place → place < suc count
place-step true found count place within is =
    let later = later-place found place is in
    let before = within later.0 later.1 in
    let same = later.2 in omega (arith, before, same)
place-step false found count place within is =
    let same : 0 ≡ place = cc in omega (arith, same)

pub refused-within : (state : State) (steps : List Step) (place : ℕ) → first_refused state steps ≡ Some place
    → place < length steps
refused-within state [] place is = absurd (cc)
refused-within state (step ∷ steps) place is =
    place-step (is_enabled state step) (first_refused (after state step) steps) (length steps) place
    (refused-within (after state step) steps) is
