-- An epoch above the tags of retired slots.
use Rattle.std.proofs.Common.{◌≡◌, ℕ, ◌<◌, ◌+◌, Bool, true, false, not, ◌&&◌, List, [], ◌∷◌, length, map, get_or, drop}
use Rattle.std.proofs.Common.{refl, ap, ◌∙◌, ltb}
use Rattle.std.proofs.lemmas.List.{at_drop_more}
use Rattle.pebr_core.specs.declared.kinds.Retired.{Retired}
use Rattle.pebr_core.specs.declared.kinds.Retired.TheVariants as retire
use Rattle.pebr_core.specs.State.{is_retired}
use Rattle.pebr_core.specs.Steps.{is_above_tags}

-- the epoch is above the tag of each of these
abbrev pub is_above_all : ℕ → List Retired → Bool
is_above_all epoch slots = is_above_tags (map is_retired slots) slots epoch

pub is_above_all-cons : (epoch : ℕ) (r : Retired) (rs : List Retired) (b : Bool)
    → is_above_tags (is_retired r ∷ []) (r ∷ []) epoch ≡ not b
    → is_above_all epoch (r ∷ rs) ≡ (not b && is_above_all epoch rs)
is_above_all-cons epoch retire.No rs true h = absurd cc
is_above_all-cons epoch retire.No rs false h = refl
is_above_all-cons epoch retire.Untagged rs true h = absurd cc
is_above_all-cons epoch retire.Untagged rs false h = refl
is_above_all-cons epoch (retire.Tagged tag) rs b h =
    ap (λ t. t && is_above_all epoch rs) (and_true (ltb tag epoch) (not b) h)
  where
    and_true : (x y : Bool) → (x && true) ≡ y → x ≡ y
    and_true true y e = e
    and_true false y e = e

-- one step through the list
pub is_above_all-drop : (epoch : ℕ) (rs : List Retired) (i : ℕ) (b : Bool) → i < length rs
    → is_above_tags (is_retired (get_or rs i retire.No) ∷ []) (get_or rs i retire.No ∷ []) epoch ≡ not b
    → is_above_all epoch (drop i rs) ≡ (not b && is_above_all epoch (drop (i + 1) rs))
is_above_all-drop epoch rs i b inside h =
    at_drop_more (is_above_all epoch) rs i retire.No inside
    ∙ is_above_all-cons epoch (get_or rs i retire.No) (drop (i + 1) rs) b h
