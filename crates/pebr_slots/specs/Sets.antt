-- The slots of a seat: for each slot, whether it is fresh, whether it is retired and with which tag, and whether the
-- scan keeps it.
use Rattle.std.specs.Prelude.{ℕ, suc, Bool, true, false, List, [], ◌∷◌, Option, Some, None, nat_lt, map}
use Rattle.pebr_core.specs.declared.kinds.Retired.{Retired}
use Rattle.pebr_core.specs.State.{is_retired}
use Rattle.pebr_core.specs.Steps.{without}

pub record Sets : Type 0 where
  pub fresh : List Bool
  pub retired : List Retired
  pub kept : List Bool
  -- how many retired slots there is room for
  pub room : ℕ

-- the retired slots that the scan doesn't keep
abbrev pub given_slots : Sets → List Bool
given_slots sets = without (map is_retired sets.retired) sets.kept

-- the epoch is above a tag, where there is one
abbrev pub is_above : Option ℕ → ℕ → Bool
is_above None epoch = true
is_above (Some tag) epoch = nat_lt tag epoch

-- the least slot of a set, and the number past its end where it has none
abbrev pub least_in : List Bool → ℕ
least_in [] = 0
least_in (true ∷ marks) = 0
least_in (false ∷ marks) = suc (least_in marks)
