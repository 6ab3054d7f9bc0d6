-- Passes that put and take more.
use Rattle.std.proofs.Common.{◌≡◌, ℕ, List, [], ◌++◌, length, sym, ◌∙◌, subst, arith, append_assoc, append-nil}
use Rattle.std.specs.Prelude.{flat_map, IsPermutation}
use Rattle.std.proofs.lemmas.List.Sorted.{IsPermutation-sym, IsPermutation-trans, IsPermutation-append_left}
use Rattle.batch_queue.specs.declared.batch.Batch.{Batch}
use Rattle.batch_queue.specs.declared.queue.BatchQueue.{BatchQueue}
use Rattle.batch_queue.specs.declared.queue.QueuePass.{QueuePass}
use Rattle.batch_queue.specs.Passes.{IsPassOf, IsMore, IsReaders, StandsForAll, put_of, took_of, seats_of, others_of}
use Rattle.batch_queue.specs.Queueing.{more_of}
use Rattle.batch_queue.specs.Uniting.{IsFirst, IsForAll, IsOther}

-- nothing more
pub more-none : (p : QueuePass) → IsMore [] [] p p
more-none p = let v = p.pass.me.0.client in λ i. record {
  reader = v.reader;
  seats = v.seats;
  others = v.others;
  put = sym (append-nil v.put) i;
  took = sym (append-nil v.took) i;
}

-- some, and then others
pub more-both : (p q r : QueuePass) (put took put' took' : List Batch) → IsMore put took p q → IsMore put' took' q r
    → IsMore (put ++ put') (took ++ took') p r
more-both p q r put took put' took' first then =
    let v = p.pass.me.0.client in
    then ∙ (λ i. more_of put' took' (first i)) ∙ (λ i. record {
      reader = v.reader;
      seats = v.seats;
      others = v.others;
      put = append_assoc v.put put put' i;
      took = append_assoc v.took took took' i;
    })

-- which batches the pass put and took then, and that it stands for the same seats
pub more-keeps : (p q : QueuePass) (put took : List Batch) → IsMore put took p q
    → (put_of q ≡ put_of p ++ put) × (took_of q ≡ took_of p ++ took) × (seats_of q ≡ seats_of p)
    × (others_of q ≡ others_of p) × (IsReaders p → IsReaders q)
more-keeps p q put took more = (
  (λ i. (more i).put),
  (λ i. (more i).took),
  (λ i. (more i).seats),
  (λ i. (more i).others),
  (λ reader. (λ i. (more i).reader) ∙ reader),
)

-- a worker's pass that took more is a worker's still
pub other-more : (queue : BatchQueue) (p q : QueuePass) (took : List Batch) → IsPassOf queue q → IsMore [] took p q
    → IsOther queue p → IsOther queue q
other-more queue p q took of more other =
    let keeps = more-keeps p q [] took more in
    (of, keeps.0 ∙ append-nil (put_of p) ∙ other.1, keeps.2 ∙ other.2, keeps.3 ∙ other.3)

-- the reader's pass stays so where it puts more
pub first-more : (queue : BatchQueue) (others : ℕ) (p q : QueuePass) (put : List Batch) → IsPassOf queue q
    → IsMore put [] p q → IsFirst queue others p → IsFirst queue others q
first-more queue others p q put of more first =
    let keeps = more-keeps p q put [] more in
    record {
      of = of;
      reader = keeps.4 first.reader;
      single = keeps.2 ∙ first.single;
      others_are = keeps.3 ∙ first.others_are;
      none = keeps.1 ∙ append-nil (took_of p) ∙ first.none;
    }

-- What the other seats took and what was left are all batches that were put, where one pass for all seats took what was
-- left.
pub all-taken : (queue : BatchQueue) (seats : List QueuePass) (first united after : QueuePass) (more : List Batch)
    → IsFirst queue (length seats) first → IsForAll seats first united → IsMore [] more united after
    → (StandsForAll after → IsPermutation (put_of after) (took_of after))
    → IsPermutation (put_of first) (flat_map took_of seats ++ more)
all-taken queue seats first united after more is for_all then all =
    let keeps = more-keeps united after [] more then in
    let stands : StandsForAll after = (
      keeps.4 (for_all.reader is.reader),
      omega (arith, keeps.2, keeps.3, for_all.many, for_all.others, is.single, is.others_are),
    ) in
    let whole : IsPermutation (put_of first) (took_of united ++ more) =
    subst (λ l. IsPermutation (put_of first) l) keeps.1
    (subst (λ l. IsPermutation l (took_of after)) (keeps.0 ∙ append-nil (put_of united) ∙ for_all.put) (all stands)) in
    let taken : IsPermutation (flat_map took_of seats) (took_of united) =
    subst (λ (l : List Batch). IsPermutation (l ++ flat_map took_of seats) (took_of united)) is.none for_all.took in
    IsPermutation-trans _ (took_of united ++ more) _ whole
    (IsPermutation-append_left more (took_of united) (flat_map took_of seats) (IsPermutation-sym _ _ taken))
