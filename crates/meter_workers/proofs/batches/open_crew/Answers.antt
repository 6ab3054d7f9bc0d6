-- Who has which share.
use Rattle.meter_workers.proofs.Common.{◌≡◌, [], sym, subst, arith, All, IsPermutation}
use Rattle.meter_workers.proofs.Common.{IsPermutation-refl, All-nil, QueuePass, IsPassOf, Share}
use Rattle.meter_workers.proofs.Common.{Worker, IsShareOf, StandsBefore, answers_in, all-mapped}
use Rattle.work_pieces.proofs.Doing.{behind-first}
use Rattle.batch_queue.specs.Passes.{IsReaders, IsFresh, others_of}
use Rattle.meter_workers.proofs.batches.open_crew.Goals as goal

pub returns-clause-reader : goal.returns-clause-reader
returns-clause-reader g c =
    let P : Share g.row.C.Denot g.row.C-Pass.Denot → Type 0 = IsShareOf g.C.FlowCache c.args.cache.now [] in
    let least = c.requires.passes.0 in
    let queue = c.in_ok-queue.ensures.reader in
    let none = queue.1.1 in (
      (queue.0, queue.4),
      record {
        first = record {
          of = queue.0;
          reader = queue.2;
          single = queue.1.0;
          others_are = queue.3;
          none = queue.1.2;
        };
        behind = subst (All (StandsBefore 0 0)) (sym none) (All-nil (StandsBefore 0 0));
        low = omega arith;
        own = [];
        all = subst (λ l. IsPermutation [] (answers_in l)) (sym none) (IsPermutation-refl []);
        is = subst P (sym c.remove-share.ensures.value)
            (c.in_ok-shares.ensures.shares 0 _ (omega (arith, c.in_ok-shares.ensures.many, least)));
      },
    )

pub returns-clause-last : goal.returns-clause-last
returns-clause-last g c =
    let P : Share g.row.C.Denot g.row.C-Pass.Denot → Type 0 = IsShareOf g.C.FlowCache c.args.cache.now [] in
    let told = c.in_ok-shares.ensures in
    let len = c.remove-share.ensures.len in
    subst P (sym c.remove-last.ensures.value) (behind-first P _ _ told.shares c.remove-share.ensures.by_index.2 0 _
    (omega (arith, told.many, c.requires.passes.0, len, c.remove-share.new.self.ok.0, c.in_ok-shares.shares.ok.0)))

pub returns-clause-workers : goal.returns-clause-workers
returns-clause-workers g c =
    let W : Type 0 = Worker (Share g.row.C.Denot g.row.C-Pass.Denot) QueuePass in
    let P : Share g.row.C.Denot g.row.C-Pass.Denot → Type 0 = IsShareOf g.C.FlowCache c.args.cache.now [] in
    let Q : QueuePass → Type 0 =
    λ p. IsPassOf c.in_ok-queue.queue p × IsFresh p × (¬ IsReaders p) × (others_of p ≡ 0) in
    let told = c.in_ok-workers.ensures in
    let is = all-mapped P (λ (w : W). w.share) _ (subst (All P) (sym told.shares)
    (behind-first P _ _ (behind-first P _ _ c.in_ok-shares.ensures.shares c.remove-share.ensures.by_index.2)
    c.remove-last.ensures.by_index.2)) in
    let has = all-mapped Q (λ (w : W). w.seat) _ (subst (All Q) (sym told.seats) c.in_ok-queue.ensures.passes) in
    λ k d inside.
    let seat = has k d inside in
    record { is = is k d inside; seat = (seat.0, seat.1.1, seat.1.0, seat.3); none = seat.1.2 }
