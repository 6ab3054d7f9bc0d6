-- What a clause says of the pieces and of a pass.
use Rattle.std.specs.Prelude.{◌≡◌, ◌<◌, ℕ, List, [], false}
use Rattle.work_pieces.specs.declared.pieces.Pieces.{Pieces}
use Rattle.work_pieces.specs.declared.pieces.DrawPass.{DrawPass}

-- the pass is of these pieces
abbrev pub IsPassOf : Pieces → DrawPass → Type 0
IsPassOf p d = (d.seat.table_id ≡ p.table.shared.table_id) × (d.seat.me.0.pieces ≡ p.pieces)
    × (d.seat.me.0.all ≡ p.table.shared.key.all) × (d.seat.me.1 ≡ [])

abbrev pub count_of : Pieces → ℕ
count_of p = p.count

abbrev pub size_of : Pieces → ℕ
size_of p = p.size

-- how many pieces there are
abbrev pub number_of : Pieces → ℕ
number_of p = p.pieces

-- how many seats there are
abbrev pub seats_in : Pieces → ℕ
seats_in p = p.table.shared.key.all

abbrev pub drawn_of : DrawPass → List ℕ
drawn_of d = d.seat.me.0.drawn

abbrev pub seats_of : DrawPass → ℕ
seats_of d = d.seat.me.0.seats

-- how many of its seats had their None
abbrev pub nones_of : DrawPass → ℕ
nones_of d = d.seat.me.0.done

-- a pass of one seat that has drawn nothing
abbrev pub IsFresh : DrawPass → Type 0
IsFresh d = (d.done ≡ false) × (d.seat.me.0.seats ≡ 1) × (d.seat.me.0.done ≡ 0) × (d.seat.me.0.drawn ≡ [])

-- a pass of one seat of these pieces that had its None
pub record HasEnded (p : Pieces) (d : DrawPass) : Type 0 where
  pub of : IsPassOf p d
  pub single : seats_of d ≡ 1
  pub ended : 0 < nones_of d
