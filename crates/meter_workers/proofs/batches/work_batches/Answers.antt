use Rattle.meter_workers.proofs.Common.{◌++◌, ◌∷◌, List, [], length, sym, ap, subst, ◌∙◌, arith, All, Offsets}
use Rattle.meter_workers.proofs.Common.{Answer, batch-answers, IsBefore, IsMore, took_of, more-none, more-keeps}
use Rattle.meter_workers.proofs.Common.{HasMetered}
use Rattle.meter_workers.proofs.Common.{IsShareOf, answers_of_batch, answers_in, IsReadyFor, snoc, done-none, done-more}
use Rattle.batch_queue.specs.Queueing.{more_of}
use Rattle.batch_queue.proofs.Passing.{more-both}
use Rattle.batch_queue.proofs.Records.{ready-more}
use Rattle.meter_workers.proofs.batches.work_batches.Goals as goal

pub loop-init : goal.loop-init
loop-init g c = record {
  of = c.requires.own;
  ready = c.requires.ready;
  did = ([], more-none c.args.seat.now, done-none (IsShareOf g.C.FlowCache c.args.cache.now) c.args.share.now);
}

pub meter_run-requires-clause-share : goal.meter_run-requires-clause-share
meter_run-requires-clause-share g c κs within =
    let had = c.requires.share in (_, c.loop.invariant.did.2.besides had.0 had.1)

pub loop-preserved-in-Some-take : goal.loop-preserved-in-Some-take
loop-preserved-in-Some-take g c =
    let known = c.loop.invariant in
    let batch = c.in-Some-take.batch in
    let asked = c.is_ended-ended.ensures.same.0 in
    let took = c.in-Some-take.ensures.took in
    let more : IsMore [] (batch ∷ []) c.loop.seat c.take.new.pass = took.0 ∙ (λ i. more_of [] (batch ∷ []) (asked i)) in
    let before : All (λ b. IsBefore b batch) (took_of c.loop.seat) =
    subst (All (λ b. IsBefore b batch)) (λ i. (asked i).took) took.1 in
    let told = c.in_ok-meter_run-in-Some-take.ensures in
    let part = c.part-part.ensures in
    let count = c.count.ensures ∙ ap (λ (o : Offsets). length o.offsets) part.index in
    let own = batch-answers c.part-part.result c.count.result batch part.base part.file count in
    record {
      of = c.take.ensures.own;
      ready = ready-more (took_of c.loop.seat) (took_of c.take.new.pass) batch c.meter_run.new.share.tally.captured
          (more-keeps c.loop.seat c.take.new.pass [] (batch ∷ []) more).1
          (let t = told.captured in let r = known.ready batch before in omega
          (arith, t, count, r, batch.indexed.count));
      did = (
        known.did.0 ++ batch ∷ [],
        more-both c.args.seat.now c.loop.seat c.take.new.pass [] known.did.0 [] (batch ∷ []) known.did.1 more,
        subst (λ (l : List Answer). HasMetered g.C.FlowCache c.args.cache.now l c.args.share.now c.meter_run.new.share)
            (ap (λ l. answers_in known.did.0 ++ l) own ∙ sym (snoc answers_of_batch known.did.0 batch))
            (done-more (IsShareOf g.C.FlowCache c.args.cache.now) _ _ _ c.loop.share _ known.did.2 told.share),
      );
    }

pub returns-then-ended-clause-did : goal.returns-then-ended-clause-did
returns-then-ended-clause-did g c =
    let known = c.loop.invariant in
    let same = (c.take.ensures.none c.in-None-take.is).0 ∙ c.is_ended-ended.ensures.same.0 in
    (known.did.0, same ∙ known.did.1, known.did.2)

pub loop-preserved : goal.loop-preserved
loop-preserved g c =
    let known = c.loop.invariant in
    let same = (c.take.ensures.none c.in-None-take.is).0 ∙ c.is_ended-ended.ensures.same.0 in
    record {
      of = c.take.ensures.own;
      ready = subst (λ l. IsReadyFor l c.loop.share.tally.captured) (sym (λ i. (same i).took)) known.ready;
      did = (known.did.0, same ∙ known.did.1, known.did.2);
    }
