-- A batch is put, or metered.
use Rattle.meter_workers.proofs.Common.{◌≡◌, List, [], ◌∷◌, ◌++◌, length, refl, sym, ap, ◌∙◌, subst, arith}
use Rattle.meter_workers.proofs.Common.{append_assoc, length-append, IsPermutation, All-nil, All-cons, All-weaker}
use Rattle.meter_workers.proofs.Common.{IsPermutation-trans, IsPermutation-append_left, Offsets, Answer, snoc}
use Rattle.meter_workers.proofs.Common.{batch-answers, Batch}
use Rattle.meter_workers.proofs.Common.{IsBefore, put_of, reader_of, more-keeps, more-none, StandsBefore}
use Rattle.meter_workers.proofs.Common.{answers_of_batch, answers_in, HasMetered}
use Rattle.std.proofs.lemmas.List.Sorted.{length_permutation}
use Rattle.cache_face.proofs.Keeping.{swapped}
use Rattle.meter_workers.proofs.Crew.{handed-more}
use Rattle.meter_workers.proofs.batches.hand_over.Goals as goal

pub overflow_add-reader : goal.overflow_add-reader
overflow_add-reader g c =
    let had = c.requires.handed in
    let low = had.2.low in
    omega (arith, low, had.1, c.args.batch.few)

pub offer-requires-clause-reader : goal.offer-requires-clause-reader
offer-requires-clause-reader g c = c.requires.handed.2.first.reader

pub offer-requires-clause-behind : goal.offer-requires-clause-behind
offer-requires-clause-behind g c =
    let had = c.requires.handed in
    let Before : Batch → Type 0 = λ b. IsBefore b c.args.batch in
    All-weaker (StandsBefore c.args.reader.now.next (length had.0)) Before
    (λ b before.
    (let n = before.0 in let r = before.1 in (omega (arith, n, c.requires.next.0), omega (arith, r, had.1))))
    (put_of (reader_of c.args.reader.now.feed)) had.2.behind

pub returns-in-Ok-clause-handed : goal.returns-in-Ok-clause-handed
returns-in-Ok-clause-handed g c = λ answers base handed.
    let batch = c.args.batch in
    let more = answers_of_batch batch in
    let old = reader_of c.args.reader.now.feed in
    let new = reader_of c.offer.new.feed in
    let put = answers_in (put_of old) in
    let all : answers_in (put_of new) ≡ put ++ more =
    ap answers_in (more-keeps old new (batch ∷ []) [] c.in-Ok.ensures.put).0
    ∙ snoc answers_of_batch (put_of old) batch in
    handed-more g.C.FlowCache c.args.cache.now _ _ answers handed.own batch (batch ∷ []) c.args.reader.now _
    c.requires.next.0 base c.requires.next.1 refl c.offer.ensures.own c.in-Ok.ensures.put
    (All-cons (λ b. b ≡ batch) batch [] refl (All-nil (λ b. b ≡ batch))) handed.is
    (subst (λ l. IsPermutation (answers ++ more) (handed.own ++ l)) (sym all)
    (subst (λ l. IsPermutation (answers ++ more) l) (append_assoc handed.own put more)
    (IsPermutation-append_left more answers (handed.own ++ put) handed.all))) handed

pub meter_run-requires-clause-share : goal.meter_run-requires-clause-share
meter_run-requires-clause-share g c κs within = (let had = c.requires.handed.2 in (had.own, had.is))

pub meter_run-requires-clause-room : goal.meter_run-requires-clause-room
meter_run-requires-clause-room g c κs within =
    let had = c.requires.handed in
    let all = had.2.all in
    let long = length_permutation _ _ all in
    let both = length-append had.2.own (answers_in (put_of (reader_of c.args.reader.now.feed))) in
    omega (
      arith,
      long,
      both,
      had.1,
      had.2.is.tallied.captured,
      c.part-part.result.few,
      c.part-part.ensures.base,
      ap (λ (b : Batch). b.base) c.in-Err.ensures.full.0,
      c.count.ensures,
    )

pub returns-in_ok-meter_run-in-Err-clause-handed : goal.returns-in_ok-meter_run-in-Err-clause-handed
returns-in_ok-meter_run-in-Err-clause-handed g c = λ answers base handed.
    let full = c.in-Err.ensures.full in
    let part = c.part-part.ensures in
    let own = batch-answers c.part-part.result c.count.result c.in-Err.back part.base part.file
    (c.count.ensures ∙ ap (λ (o : Offsets). length o.offsets) part.index) ∙ ap answers_of_batch full.0 in
    let step = subst (λ (l : List Answer). HasMetered g.C.FlowCache c.args.cache.now l c.args.reader.now.share
    c.meter_run.new.share) own c.in_ok-meter_run-in-Err.ensures.share in
    let more = answers_of_batch c.args.batch in
    let old = reader_of c.args.reader.now.feed in
    let put = answers_in (put_of old) in
    handed-more g.C.FlowCache c.args.cache.now _ _ answers (handed.own ++ more) c.args.batch [] c.args.reader.now _
    c.requires.next.0 base c.requires.next.1 refl c.offer.ensures.own (full.1 ∙ more-none old)
    (All-nil (λ b. b ≡ c.args.batch)) (step.besides handed.own handed.is)
    (subst (λ l. IsPermutation (answers ++ more) ((handed.own ++ more) ++ answers_in l)) (sym (λ i. (full.1 i).put))
    (IsPermutation-trans _ ((handed.own ++ put) ++ more) _
    (IsPermutation-append_left more answers (handed.own ++ put) handed.all) (swapped handed.own put more))) handed
