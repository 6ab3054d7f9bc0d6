-- What a clause says of the queue and of a pass.
use Rattle.std.specs.Prelude.{◌≡◌, ℕ, ◌<◌, List, [], ◌++◌, true, length}
use Rattle.crossbeam_queue.specs.Passes.{view, ruled_capacity}
use Rattle.crossbeam_queue.specs.Passes as kit
use Rattle.batch_queue.specs.declared.batch.Batch.{Batch}
use Rattle.batch_queue.specs.declared.seen.Seen.{Seen}
use Rattle.batch_queue.specs.declared.heard.Heard.{Heard}
use Rattle.batch_queue.specs.declared.queue.BatchQueue.{BatchQueue}
use Rattle.batch_queue.specs.declared.queue.QueuePass.{QueuePass}
use Rattle.batch_queue.specs.declared.queue.Feed.{Feed}
use Rattle.batch_queue.specs.Queueing.{IsAll, more_of}

-- how many batches the queue has room for
abbrev pub room_of : BatchQueue → ℕ
room_of queue = ruled_capacity queue.line

-- the pass is of this queue
abbrev pub IsPassOf : BatchQueue → QueuePass → Type 0
IsPassOf queue pass = kit.IsPassOf queue.line pass.pass
    × (pass.seat.table_id ≡ queue.ended.shared.table_id) × (pass.seat.me.1 ≡ [])

abbrev seen_by : QueuePass → Seen
seen_by pass = view pass.pass

-- the pass may put batches
abbrev pub IsReaders : QueuePass → Type 0
IsReaders pass = (seen_by pass).reader ≡ true

-- the batches that it put, in order, and those that it took
abbrev pub put_of : QueuePass → List Batch
put_of pass = (seen_by pass).put

abbrev pub took_of : QueuePass → List Batch
took_of pass = (seen_by pass).took

-- how many seats it stands for, and how many other seats it was opened with
abbrev pub seats_of : QueuePass → ℕ
seats_of pass = (seen_by pass).seats

abbrev pub others_of : QueuePass → ℕ
others_of pass = (seen_by pass).others

-- it stands for all seats
abbrev pub StandsForAll : QueuePass → Type 0
StandsForAll pass = IsAll (seen_by pass)

-- a pass of one seat that has put and taken nothing
abbrev pub IsFresh : QueuePass → Type 0
IsFresh pass = (seats_of pass ≡ 1) × (put_of pass ≡ []) × (took_of pass ≡ [])

-- nothing changed
abbrev pub IsSame : QueuePass → QueuePass → Type 0
IsSame old new = seen_by new ≡ seen_by old

-- these batches were put and taken besides, and nothing else changed
abbrev pub IsMore : List Batch → List Batch → QueuePass → QueuePass → Type 0
IsMore put took old new = seen_by new ≡ more_of put took (seen_by old)

abbrev heard_by : QueuePass → Heard
heard_by pass = pass.seat.me.0

-- it may put batches, and say that no more come: the reader's pass, until it has said so
abbrev pub MayPut : QueuePass → Type 0
MayPut pass = 0 < (heard_by pass).right

-- it knows that it was said that no more batches come
abbrev pub WasTold : QueuePass → Type 0
WasTold pass = 0 < (heard_by pass).told

-- it may put batches where it might, and was told nothing
abbrev pub IsToldNothing : QueuePass → QueuePass → Type 0
IsToldNothing old new = heard_by new ≡ heard_by old

-- the reader's pass, and whether it may put batches
abbrev pub reader_of : Feed → QueuePass
reader_of feed = feed.pass

abbrev pub IsOpen : Feed → Type 0
IsOpen feed = MayPut (reader_of feed)

-- the queue was full: the batches that the reader put last filled it
abbrev pub IsFull : BatchQueue → QueuePass → Type 0
IsFull queue pass = (gone items : List Batch) × (put_of pass ≡ gone ++ items) × (length items ≡ room_of queue)
