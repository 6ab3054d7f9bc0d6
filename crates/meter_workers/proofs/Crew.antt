-- What the reader and the workers have done.
use Rattle.meter_workers.proofs.Common.{◌≡◌, ℕ, ◌+◌, ◌<◌, List, [], ◌++◌, length, sym, ap, ◌∙◌, subst, arith}
use Rattle.meter_workers.proofs.Common.{length-append, All, IsPermutation, All-append, All-weaker, part_of, Ghosts}
use Rattle.meter_workers.proofs.Common.{Answer, answers-count, Batch, IsPassOf, IsMore, put_of, reader_of, first-more}
use Rattle.meter_workers.proofs.Common.{more-keeps, IsShareOf, answers_of_batch, answers_in, HasHandedOn, StandsBefore}
use Rattle.batch_queue.specs.declared.queue.BatchQueue.{BatchQueue}
use Rattle.batch_queue.specs.Batches.{count_of}
use Rattle.meter_workers.specs.declared.batches.Reader.{Reader}

module _ {X P : Type 0} (the : Ghosts X P) (cache : X) where
  -- its next batch was put or metered
  pub handed-more : (queue : BatchQueue) (workers : ℕ) (answers own : List Answer) (batch : Batch) (put : List Batch)
      (old new : Reader X P)
      → batch.number ≡ old.next → batch.base ≡ length answers → 0 < count_of batch → new.next ≡ old.next + 1
      → IsPassOf queue (reader_of new.feed) → IsMore put [] (reader_of old.feed) (reader_of new.feed)
      → All (λ b. b ≡ batch) put → IsShareOf the cache own new.share
      → IsPermutation (answers ++ answers_of_batch batch) (own ++ answers_in (put_of (reader_of new.feed)))
      → HasHandedOn the cache queue workers answers old
      → HasHandedOn the cache queue workers (answers ++ answers_of_batch batch) new
  handed-more queue workers answers own batch put old new number base some next of more one is all handed =
      let Before : Batch → Type 0 = StandsBefore new.next (length (answers ++ answers_of_batch batch)) in
      let long : length (answers ++ answers_of_batch batch) ≡ length answers + count_of batch =
      length-append answers (answers_of_batch batch)
      ∙ ap (λ n. length answers + n) (answers-count batch.base (part_of batch.head batch.bytes.items)) in
      let last : Before batch = (omega (arith, number, next), omega (arith, base, long)) in
      record {
        first = first-more queue workers (reader_of old.feed) (reader_of new.feed) put of more handed.first;
        behind = subst (All Before) (sym (more-keeps (reader_of old.feed) (reader_of new.feed) put [] more).0)
            (All-append Before (put_of (reader_of old.feed)) put
            (All-weaker (StandsBefore old.next (length answers)) Before
            (λ b before. (let n = before.0 in let r = before.1 in (omega (arith, n, next), omega (arith, r, long))))
            (put_of (reader_of old.feed)) handed.behind)
            (All-weaker (λ b. b ≡ batch) Before (λ b e. subst Before (sym e) last) put one));
        low = (let low = handed.low in omega (arith, low, next, long, some));
        own = own;
        all = all;
        is = is;
      }
