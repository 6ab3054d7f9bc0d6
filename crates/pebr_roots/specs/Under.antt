-- What stands under the shields of a pass.
use Rattle.std.specs.Prelude.{◌≡◌, ℕ, Bool, true, false, List, Some, map, unwrap_or, slice_index}
use Rattle.pebr_core.specs.declared.kinds.Shape.{Shape}
use Rattle.pebr_core.specs.declared.kinds.ShieldAt.{ShieldAt}
use Rattle.pebr_core.specs.declared.kinds.ShieldAt.TheVariants as shield
use Rattle.pebr_core.specs.State.{Seat, shield_at, slot_under}
use Rattle.pebr_words.specs.Places.{slot_word, index}

-- the slot under a shield, and 0 where it is down
abbrev pub slot_at : Seat → ℕ → ℕ
slot_at known place = unwrap_or (slot_under (shield_at known place)) 0

abbrev pub is_valid : ShieldAt → Bool
is_valid shield.Down = false
is_valid (shield.Set slot) = false
is_valid (shield.Valid slot) = true

-- whether the shield is valid
abbrev pub is_valid_at : Seat → ℕ → Bool
is_valid_at known place = is_valid (shield_at known place)

-- The list has the slot under each shield that is up.
abbrev pub AreUnder : List ℕ → Seat → Type 0
AreUnder under known = (place slot : ℕ) → slot_under (shield_at known place) ≡ Some slot
    → slice_index under place ≡ slot

-- where the words of each slot begin
abbrev pub starts_of : Shape → List ℕ → List ℕ
starts_of shape slots = map (λ slot. index shape (slot_word slot 0)) slots
