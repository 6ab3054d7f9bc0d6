-- Passes of single seats, and the pass that stands for all of them.
use Rattle.std.specs.Prelude.{◌≡◌, ℕ, ◌+◌, List, [], ◌++◌, length, flat_map, IsPermutation}
use Rattle.batch_queue.specs.declared.queue.BatchQueue.{BatchQueue}
use Rattle.batch_queue.specs.declared.queue.QueuePass.{QueuePass}
use Rattle.batch_queue.specs.Passes.{IsPassOf, IsReaders, put_of, took_of, seats_of, others_of}

-- A pass of one seat of the queue, which put nothing and knows of no other seat.
abbrev pub IsOther : BatchQueue → QueuePass → Type 0
IsOther queue seat = IsPassOf queue seat × (put_of seat ≡ []) × (seats_of seat ≡ 1) × (others_of seat ≡ 0)

-- One pass stands for the first and for all these others.
pub record IsForAll (seats : List QueuePass) (first all : QueuePass) : Type 0 where
  pub reader : IsReaders first → IsReaders all
  pub put : put_of all ≡ put_of first
  pub others : others_of all ≡ others_of first
  pub many : seats_of all ≡ seats_of first + length seats
  pub took : IsPermutation (took_of first ++ flat_map took_of seats) (took_of all)

-- The reader's pass: of one seat beside so many others, and it took nothing.
pub record IsFirst (queue : BatchQueue) (others : ℕ) (pass : QueuePass) : Type 0 where
  pub of : IsPassOf queue pass
  pub reader : IsReaders pass
  pub single : seats_of pass ≡ 1
  pub others_are : others_of pass ≡ others
  pub none : took_of pass ≡ []
