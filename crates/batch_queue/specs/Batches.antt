-- Batches in the order of a capture.
use Rattle.std.specs.Prelude.{ℕ, ◌+◌, ◌<◌, ◌≤◌, List, [], ◌∷◌, length, All, flat_map}
use Rattle.pcap_reader.specs.Views.{part_of}
use Rattle.pcap_reader.specs.Records.{records_of}
use Rattle.capture_input.specs.Parts.{Answer, answers_from}
use Rattle.batch_queue.specs.declared.batch.Batch.{Batch}

-- How many records a batch has.
abbrev pub count_of : Batch → ℕ
count_of batch = length (records_of (part_of batch.head batch.bytes.items))

-- The first batch stands before the other: its number is smaller, and its records end before those of the other begin.
abbrev pub IsBefore : Batch → Batch → Type 0
IsBefore first other = (first.number < other.number) × (first.base + count_of first ≤ other.base)

-- Each batch stands before all behind it.
abbrev pub AreRising : List Batch → Type 0
AreRising [] = Unit {0}
AreRising (batch ∷ batches) = All (IsBefore batch) batches × AreRising batches

-- The answers to the records of a batch, and to those of several, one batch behind the other.
abbrev pub answers_of_batch : Batch → List Answer
answers_of_batch batch = answers_from batch.base (part_of batch.head batch.bytes.items)

abbrev pub answers_in : List Batch → List Answer
answers_in batches = flat_map answers_of_batch batches

-- A worker that took these batches is ready for each that stands behind them: it tallied no more records than stand
-- before that one.
abbrev pub IsReadyFor : List Batch → ℕ → Type 0
IsReadyFor taken captured = (next : Batch) → All (λ batch. IsBefore batch next) taken → captured ≤ next.base
