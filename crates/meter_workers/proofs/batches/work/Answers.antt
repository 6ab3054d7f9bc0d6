use Rattle.meter_workers.proofs.Common.{[], ◌++◌, ◌∙◌, sym, ap, subst, arith, more-keeps, other-more, IsShareOf}
use Rattle.meter_workers.proofs.Common.{answers_in}
use Rattle.meter_workers.proofs.batches.work.Goals.{in-Ok, in-Err}
use Rattle.meter_workers.proofs.batches.work.Goals as goal

pub work_batches-end-requires-clause-share : goal.work_batches-end-requires-clause-share
work_batches-end-requires-clause-share g c κs within = ([], c.requires.ready.is)

pub work_batches-end-requires-clause-ready : goal.work_batches-end-requires-clause-ready
work_batches-end-requires-clause-ready g c κs within =
    λ next all. (let none = c.requires.ready.is.tallied.captured in omega (arith, none))

pub returns : goal.returns
returns g c = record {
  worked = elim c.match-end.branch [
    | in-Ok w ↦ (
      λ going. absurd (let e = sym w.worker-is ∙ going in cc),
      λ finished.
          (let did = w.in-Ok.ensures.did in
          let ready = c.requires.ready in
          let old = c.args.worker.now.seat in
          let keeps = more-keeps old c.work_batches-end.new.seat [] did.0 did.1 in
          record {
            is = subst (λ l. IsShareOf g.C.FlowCache c.args.cache.now (answers_in l) c.work_batches-end.new.share)
                (sym (keeps.1 ∙ ap (λ l. l ++ did.0) ready.none)) (did.2.besides [] ready.is);
            seat = other-more c.args.shared.now.queue old c.work_batches-end.new.seat did.0
                c.work_batches-end.ensures.own did.1 ready.seat;
            told = w.in-Ok.ensures.told;
          }),
    )
    | in-Err w ↦ (
      λ going. absurd (let e = sym w.worker-is ∙ going in cc),
      λ finished. absurd (let e = sym w.worker-is ∙ finished in cc),
    )
  ];
}
