-- What the queue and the passes have to do with each other.
use Rattle.std.specs.Prelude.{◌≡◌, ℕ, ◌+◌, List, [], ◌∷◌, ◌++◌, true, false, ◌||◌, flat_map, sum_by, All, IsPermutation}
use mathlib.Core.Option.{some}
use lib.ListN.{get_elem?}
use Rattle.batch_queue.specs.declared.batch.Batch.{Batch}
use Rattle.batch_queue.specs.declared.seen.Seen.{Seen}
use Rattle.batch_queue.specs.Batches.{IsBefore, AreRising}

-- how many seats all passes stand for
abbrev pub all_seats : List Seen → ℕ
all_seats views = sum_by (λ (v : Seen). v.seats) views

-- the batches that all passes took
abbrev pub all_taken : List Seen → List Batch
all_taken views = flat_map (λ (v : Seen). v.took) views

-- What one pass knows, where these batches were put and all passes stand for so many seats: the reader's knows both,
-- the others put nothing, and one without a seat took nothing.
pub record Fits (log : List Batch) (seats : ℕ) (v : Seen) : Type 0 where
  pub reader : v.reader ≡ true → (v.put ≡ log) × (seats ≡ v.others + 1)
  pub other : v.reader ≡ false → (v.put ≡ []) × (v.others ≡ 0)
  pub idle : v.seats ≡ 0 → v.took ≡ []

-- The rule: the batches that were put are those that were taken and then those in the queue, in rising order; each that
-- was taken was taken by one pass; and one pass at most is the reader's.
pub record Queued (items : List Batch) (views : List Seen) : Type 0 where
  pub gone : List Batch
  pub rising : AreRising (gone ++ items)
  pub once : IsPermutation gone (all_taken views)
  pub single : (i j : ℕ) (v w : Seen) → get_elem? views i ≡ some v → get_elem? views j ≡ some w → v.reader ≡ true
      → w.reader ≡ true → i ≡ j
  pub each : (j : ℕ) (v : Seen) → get_elem? views j ≡ some v → Fits (gone ++ items) (all_seats views) v

-- The reader's pass as it is opened, and with one more seat beside it; another's.
abbrev pub first_seen : Seen
first_seen = record { reader = true; seats = 1; others = 0; put = []; took = [] }

abbrev pub with_another : Seen → Seen
with_another v = record { reader = v.reader; seats = v.seats; others = v.others + 1; put = v.put; took = v.took }

abbrev pub other_seen : Seen
other_seen = record { reader = false; seats = 1; others = 0; put = []; took = [] }

-- Two passes together, and what is left of the second.
abbrev pub both_of : Seen → Seen → Seen
both_of v w =
    record {
      reader = v.reader || w.reader;
      seats = v.seats + w.seats;
      others = v.others + w.others;
      put =
          v.put ++ w.put;
      took = v.took ++ w.took;
    }

abbrev pub spent_pass : Seen
spent_pass = record { reader = false; seats = 0; others = 0; put = []; took = [] }

-- A pass with these batches put and taken besides.
abbrev pub more_of : List Batch → List Batch → Seen → Seen
more_of put took v =
    record { reader = v.reader; seats = v.seats; others = v.others; put = v.put ++ put; took = v.took ++ took }

abbrev pub HasPut : Seen → Batch → Seen → Type 0
HasPut v batch w = w ≡ more_of (batch ∷ []) [] v

-- the batch stands behind each that the pass took
abbrev pub HasTaken : Seen → Batch → Seen → Type 0
HasTaken v batch w = (w ≡ more_of [] (batch ∷ []) v) × All (λ taken. IsBefore taken batch) v.took

-- The pass stands for all seats.
abbrev pub IsAll : Seen → Type 0
IsAll v = (v.reader ≡ true) × (v.seats ≡ v.others + 1)

-- What a pass can tell of the batches in the queue: those that the reader put last, and, for a pass of all seats, all
-- that it didn't take.
pub record Knows (v : Seen) (items : List Batch) : Type 0 where
  pub last : v.reader ≡ true → (gone : List Batch) × (v.put ≡ gone ++ items)
  pub all : IsAll v → IsPermutation v.put (v.took ++ items)
