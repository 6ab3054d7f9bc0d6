-- Sets of slots that lists of retired slots stand for.
use Rattle.std.specs.Prelude.{Bool, List, map}
use Rattle.pebr_core.specs.declared.kinds.Retired.{Retired}
use Rattle.pebr_core.specs.State.{is_retired}
use Rattle.pebr_core.specs.Steps.{without}

-- the retired slots that aren't kept
abbrev pub given_marks : List Retired → List Bool → List Bool
given_marks slots kept = without (map is_retired slots) kept
