-- What metering batches means; `the` is what the type of the cache means.
use Rattle.std.specs.Prelude.{◌≡◌, ◌≢◌, ℕ, ◌+◌, ◌<◌, ◌≤◌, List, [], ◌++◌, length, All}
use Rattle.std.specs.Prelude.{IsPermutation}
use Rattle.std.specs.declared.option.Option.{Option}
use Rattle.cache_face.specs.declared.caches.FlowCache.{Ghosts}
use Rattle.capture_input.specs.Parts.{Answer}
use Rattle.capture_input.specs.Giving.{IsReadWhole}
use Rattle.batch_queue.specs.declared.batch.Batch.{Batch}
use Rattle.batch_queue.specs.declared.queue.BatchQueue.{BatchQueue}
use Rattle.batch_queue.specs.declared.queue.QueuePass.{QueuePass}
use Rattle.batch_queue.specs.Batches.{answers_in, count_of}
use Rattle.batch_queue.specs.Passes.{IsPassOf, IsOpen, put_of, took_of, reader_of, WasTold}
use Rattle.batch_queue.specs.Uniting.{IsFirst, IsOther}
use Rattle.work_pieces.specs.declared.worker.Worker.{Worker}
use Rattle.work_pieces.specs.declared.worker.WorkState.TheVariants.{Going, Finished}
use Rattle.meter_workers.specs.declared.share.Share.{Share}
use Rattle.meter_workers.specs.declared.batches.Reader.{Reader}
use Rattle.meter_workers.specs.Shares.{IsShareOf}

-- ---- a worker

-- It has taken nothing from the queue.
pub record IsToTake {X P : Type 0} (the : Ghosts X P) (cache : X) (queue : BatchQueue)
    (worker : Worker (Share X P) QueuePass) : Type 0 where
  pub is : IsShareOf the cache [] worker.share
  pub seat : IsOther queue worker.seat
  pub none : took_of worker.seat ≡ []

-- It has metered just the batches that it took, until it was told that no more come.
pub record HasTaken {X P : Type 0} (the : Ghosts X P) (cache : X) (queue : BatchQueue)
    (worker : Worker (Share X P) QueuePass) : Type 0 where
  pub is : IsShareOf the cache (answers_in (took_of worker.seat)) worker.share
  pub seat : IsOther queue worker.seat
  pub told : WasTold worker.seat

-- It has ended: if it has finished, it has metered just the batches that it took.
abbrev pub HasTakenAll : {X P : Type 0} → Ghosts X P → X → BatchQueue → Worker (Share X P) QueuePass → Type 0
HasTakenAll the cache queue worker =
    (worker.state ≢ Going) × (worker.state ≡ Finished → HasTaken the cache queue worker)

-- ---- the reader

-- It may put batches into the queue, and say that no more come.
abbrev pub IsAtQueue : {X P : Type 0} → BatchQueue → Reader X P → Type 0
IsAtQueue queue reader = IsPassOf queue (reader_of reader.feed) × IsOpen reader.feed

-- The batch stands before the one with this number, whose first record has `base` records of the capture before it.
abbrev pub StandsBefore : ℕ → ℕ → Batch → Type 0
StandsBefore number base batch = (batch.number < number) × (batch.base + count_of batch ≤ base)

-- It handed these answers on, beside so many workers: their batches were put, all before its next one, or it metered
-- them itself.
pub record HasHandedOn {X P : Type 0} (the : Ghosts X P) (cache : X) (queue : BatchQueue) (workers : ℕ)
    (answers : List Answer) (reader : Reader X P) : Type 0 where
  pub first : IsFirst queue workers (reader_of reader.feed)
  pub behind : All (StandsBefore reader.next (length answers)) (put_of (reader_of reader.feed))
  pub low : reader.next ≤ length answers
  pub own : List Answer
  pub all : IsPermutation answers (own ++ answers_in (put_of (reader_of reader.feed)))
  pub is : IsShareOf the cache own reader.share

-- It has read the whole capture and handed on its records.
abbrev pub HasReadAll : {X P : Type 0} → Ghosts X P → X → BatchQueue → ℕ → Option (List ℕ) → Option (List ℕ) → ℕ
    → Reader X P → ℕ → Type 0
HasReadAll the cache queue workers before left limit reader tail =
    (answers : List Answer) × IsReadWhole before left limit answers tail
    × HasHandedOn the cache queue workers answers reader
