-- A note that stays.
use Rattle.std.proofs.Common.{◌≡◌, ℕ, zero, suc, List, [], ◌∷◌, set, refl, sym, ap, subst}
use mathlib.Core.Option.{some, some-injective}
use lib.ListN.{get_elem?}
use Rattle.pebr_core.specs.declared.kinds.Shape.{Shape}
use Rattle.pebr_core.specs.State.{Seat}
use Rattle.pebr_words.specs.Pasts.{History}
use Rattle.pebr_words.specs.Ruled.{CanNote}

set_self : {A : Type 0} (l : List A) (i : ℕ) (a : A) → get_elem? l i ≡ some a → set l i a ≡ l
set_self [] i a e = refl
set_self (x ∷ xs) zero a e = ap (λ y. y ∷ xs) (sym (some-injective x a e))
set_self (x ∷ xs) (suc i) a e = ap (λ l. x ∷ l) (set_self xs i a e)

-- a note may stay as it is
pub can_stay : {N : Type 0} (keeps : List (List ℕ) → List N → Type 0) (backed : List N → List ℕ → Type 0)
    (shape : Shape) (known : Seat) (past : History) (number : ℕ) (note : N)
    → CanNote keeps backed shape known past number note note
can_stay {N} keeps backed shape known past number note contents notes kept at backs = (
  subst (keeps contents) (sym (set_self notes number note at)) kept,
  λ content backing. subst (λ (ns : List N). backed ns content) (sym (set_self notes number note at)) backing,
)
