-- The records of batches, and the answers to them.
use Rattle.std.proofs.Common.{◌≡◌, ℕ, ◌+◌, ◌≤◌, List, [], ◌∷◌, ◌++◌, Some, length, ap, ◌∙◌, subst, arith, append_assoc}
use Rattle.std.specs.Prelude.{slice_range, flat_map, IsPermutation}
use Rattle.std.proofs.lemmas.Grind.{flat_map-append}
use Rattle.std.proofs.lemmas.List.Elements.{All-pop}
use Rattle.std.proofs.lemmas.List.Sorted.{IsPermutation-trans, IsPermutation-append_comm, IsPermutation-append_left}
use Rattle.std.proofs.lemmas.List.Sorted.{IsPermutation-append_right}
use Rattle.packet_accept.proofs.Permuted.{flat_map-permutation}
use Rattle.pcap_reader.specs.Views.{part_of, file_of}
use Rattle.capture_input.specs.declared.part.Part.{Part}
use Rattle.capture_input.specs.Parts.{Answer, answers_by, answers_from}
use Rattle.capture_input.proofs.Ranges.{answers-count, range-all}
use Rattle.batch_queue.specs.declared.batch.Batch.{Batch}
use Rattle.batch_queue.specs.declared.queue.QueuePass.{QueuePass}
use Rattle.batch_queue.specs.Batches.{IsBefore, IsReadyFor, answers_in, answers_of_batch, count_of}
use Rattle.batch_queue.specs.Passes.{took_of}

-- all answers to a batch
pub batch-answers : (part : Part) (count : ℕ) (batch : Batch) → part.base ≡ batch.base
    → file_of part.capture ≡ part_of batch.head batch.bytes.items → count ≡ length batch.index.offsets
    → slice_range (answers_by part) 0 count ≡ answers_of_batch batch
batch-answers part count batch base file all =
    let same : answers_by part ≡ answers_of_batch batch = (λ i. answers_from (base i) (file i)) in
    let long = answers-count batch.base (part_of batch.head batch.bytes.items) in
    range-all (answers_by part) count (omega (arith, ap length same, long, all, batch.indexed.count)) ∙ same

-- a worker that took a batch more and tallied it is ready for those behind it
pub ready-more : (taken taken' : List Batch) (batch : Batch) (captured : ℕ)
    → taken' ≡ taken ++ batch ∷ [] → captured ≤ batch.base + count_of batch → IsReadyFor taken' captured
ready-more taken taken' batch captured more few = λ next all.
    let last = (All-pop (λ b. IsBefore b next) taken' taken (Some batch) more all).1 in
    omega (arith, few, last.1)

-- Answers that are those to the batches that were put, beside others: each batch was taken by a seat or is left.
pub all-answers : (answers own theirs : List Answer) (put more : List Batch) (seats : List QueuePass)
    → IsPermutation answers (own ++ answers_in put) → IsPermutation put (flat_map took_of seats ++ more)
    → answers_in (flat_map took_of seats) ≡ theirs → IsPermutation answers ((theirs ++ own) ++ answers_in more)
all-answers answers own theirs put more seats all out are =
    let took = flat_map took_of seats in
    let left = answers_in more in
    let each : answers_in (took ++ more) ≡ theirs ++ left =
    flat_map-append answers_of_batch took more ∙ ap (λ l. l ++ left) are in
    IsPermutation-trans _ (own ++ answers_in put) _ all
    (IsPermutation-trans _ (own ++ (theirs ++ left)) _
    (IsPermutation-append_right own (answers_in put) (theirs ++ left)
    (subst (λ l. IsPermutation (answers_in put) l) each (flat_map-permutation answers_of_batch put (took ++ more) out)))
    (subst (λ l. IsPermutation l ((theirs ++ own) ++ left)) (append_assoc own theirs left)
    (IsPermutation-append_left left (own ++ theirs) (theirs ++ own) (IsPermutation-append_comm own theirs))))
