-- What workers do with the pieces of a part; `the` is what the type of the cache means.
use Rattle.std.specs.Prelude.{ℕ, ◌≤◌, List}
use Rattle.cache_face.specs.declared.caches.FlowCache.{Ghosts}
use Rattle.capture_input.specs.Parts.{Answer}
use Rattle.work_pieces.specs.declared.pieces.Pieces.{Pieces}
use Rattle.work_pieces.specs.declared.pieces.DrawPass.{DrawPass}
use Rattle.work_pieces.specs.Passes.{IsPassOf, IsFresh}
use Rattle.meter_workers.specs.declared.share.Share.{Share}
use Rattle.work_pieces.specs.declared.worker.Worker.{Worker}
use Rattle.meter_workers.specs.Shares.{IsShareOf}

-- A share and a seat before a part, behind so many records: the seat drew nothing of it.
pub record IsReady {X P : Type 0} (the : Ghosts X P) (cache : X) (pieces : Pieces) (base : ℕ) (share : Share X P)
    (draw : DrawPass) : Type 0 where
  pub done : List Answer
  pub is : IsShareOf the cache done share
  pub draws : IsPassOf pieces draw
  pub fresh : IsFresh draw
  pub few : share.tally.captured ≤ base

-- A worker before a part.
abbrev pub IsToDraw : {X P : Type 0} → Ghosts X P → X → Pieces → ℕ → Worker (Share X P) DrawPass → Type 0
IsToDraw the cache pieces base worker = IsReady the cache pieces base worker.share worker.seat
