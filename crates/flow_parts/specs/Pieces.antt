-- Lists of fragments in pieces.
use Rattle.std.specs.Prelude.{List, flat_map}
use Rattle.std.specs.declared.vec.Vec.{Vec}
use Rattle.std.specs.declared.alloc.Global.{Global}
use Rattle.flow_parts.specs.declared.fragment.Fragment.{Fragment}

-- The fragments of some pieces, one piece after the other.
abbrev pub items_of : List (Vec Fragment Global) → List Fragment
items_of pieces = flat_map (λ piece. piece.items) pieces
