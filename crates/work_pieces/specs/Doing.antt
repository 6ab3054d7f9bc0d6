-- What workers have done: `Has list worker` says that the worker has done just these things.
use Rattle.std.specs.Prelude.{◌≡◌, List, ◌++◌, flat_map, IsPermutation}
use Rattle.std.specs.List.{AllZip}
use Rattle.work_pieces.specs.declared.pieces.Pieces.{Pieces}
use Rattle.work_pieces.specs.declared.pieces.DrawPass.{DrawPass}
use Rattle.work_pieces.specs.declared.worker.Worker.{Worker}
use Rattle.work_pieces.specs.declared.worker.WorkState.TheVariants.{Finished}
use Rattle.work_pieces.specs.Cutting.{pieces_of}
use Rattle.work_pieces.specs.Passes.{HasEnded, size_of, drawn_of}

-- The worker did these things besides, whatever it had done before.
pub record HasDone {A W : Type 0} (Has : List A → W → Type 0) (more : List A) (old new : W) : Type 0 where
  pub besides : (done : List A) → Has done old → Has (done ++ more) new

-- Several workers have done these things, each its own list of them.
pub record HaveDone {A W : Type 0} (Has : List A → W → Type 0) (things : List A) (workers : List W) : Type 0 where
  pub lists : List (List A)
  pub whole : IsPermutation things (flat_map (λ (list : List A). list) lists)
  pub each : AllZip Has lists workers

-- The seat drew until no piece was left, and the worker did the things of the pieces that it drew besides.
pub record HasWorked {A W : Type 0} (Has : List A → W → Type 0) (pieces : Pieces) (things : List A) (old new : W)
    (draw : DrawPass) : Type 0 where
  pub drawn : HasEnded pieces draw
  pub did : HasDone Has (pieces_of (size_of pieces) things (drawn_of draw)) old new

-- A worker before and behind: if it has finished, it has worked.
abbrev pub HasDrawnAll : {A S : Type 0} → (List A → S → Type 0) → Pieces → List A → Worker S DrawPass
    → Worker S DrawPass → Type 0
HasDrawnAll Has pieces things old new =
    new.state ≡ Finished → HasWorked Has pieces things old.share new.share new.seat
