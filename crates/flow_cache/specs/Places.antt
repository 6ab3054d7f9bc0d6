-- Where the entries of a cache lie.
use Rattle.std.specs.Prelude.{ℕ, ◌+◌, ◌*◌, ◌/◌}
use Rattle.pebr_core.specs.declared.kinds.Shape.{Shape}

-- Four roots for each set, of ten words each; a pass has four shields, and collects from 32 retired slots on.
abbrev pub cache_shape : ℕ → ℕ → Shape
cache_shape sets seats = record { roots = 4 * sets; seats = seats; shields = 4; batch = 32; width = 10 }

-- The root of an entry, and the set that it belongs to.
abbrev pub root_of : ℕ → ℕ → ℕ
root_of set place = 4 * set + place

abbrev pub set_of_root : ℕ → ℕ
set_of_root root = root / 4
