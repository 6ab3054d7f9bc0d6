-- Things that are cut into pieces of one size.
use Rattle.std.specs.Prelude.{ℕ, ◌+◌, ◌*◌, min, List, length, flat_map, slice_range}

-- The things of piece k, where a piece has `size` things.
abbrev pub piece_of : {X : Type 0} → ℕ → List X → ℕ → List X
piece_of size things k = slice_range things (k * size) (min ((k + 1) * size) (length things))

-- The things of these pieces, one piece behind the other.
abbrev pub pieces_of : {X : Type 0} → ℕ → List X → List ℕ → List X
pieces_of size things pieces = flat_map (piece_of size things) pieces
