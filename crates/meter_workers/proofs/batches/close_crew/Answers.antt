-- Who has metered what, once all have worked.
use Rattle.meter_workers.proofs.Common.{◌≡◌, ◌+◌, List, [], ◌++◌, length, sym, ap, ◌∙◌, subst, arith, All, IfOk, Answer}
use Rattle.meter_workers.proofs.Common.{HaveDone, QueuePass, put_of, took_of, reader_of, Share, Worker, HasHandedOn}
use Rattle.meter_workers.proofs.Common.{answers_of_batch, answers_in, IsShareOf}
use Rattle.std.specs.Prelude.{flat_map}
use Rattle.std.proofs.lemmas.List.{length-map}
use Rattle.std.proofs.lemmas.List.Elements.{All-map}
use Rattle.std.proofs.lemmas.List.Folds.{flat_map-map}
use Rattle.work_pieces.proofs.Doing.{flat-flat, longer, one-more, told-each, reordered}
use Rattle.batch_queue.specs.Uniting.{IsFirst, IsForAll, IsOther}
use Rattle.batch_queue.proofs.Passing.{all-taken}
use Rattle.batch_queue.proofs.Records.{all-answers}
use Rattle.meter_workers.proofs.batches.close_crew.Goals.{In_ok-push-2}
use Rattle.meter_workers.proofs.batches.close_crew.Given as given
use Rattle.meter_workers.proofs.batches.close_crew.Goals as goal

pub unseat_workers-requires : goal.unseat_workers-requires
unseat_workers-requires g c = record { ended = λ k d inside. (c.requires.workers k d inside).0 }

pub unite_all-seat-requires-clause-others : goal.unite_all-seat-requires-clause-others
unite_all-seat-requires-clause-others g c =
    let W : Type 0 = Worker (Share g.row.C.Denot g.row.C-Pass.Denot) QueuePass in
    subst (All (IsOther c.args.crew.shared.queue)) (sym c.in_ok-shares.ensures.seats)
    (All-map (IsOther c.args.crew.shared.queue) (λ (w : W). w.seat) c.args.crew.workers.items (λ k d inside.
    ((c.requires.workers k d inside).1 (c.in_ok-shares.ensures.finished k d inside)).seat))

-- The workers have metered the batches that they took, the reader some answers of its own, and the drain what was left:
-- together all answers that the reader handed on.
all : (g : given.Over) (c : In_ok-push-2 g) (answers : List Answer)
    → HasHandedOn g.C.FlowCache c.args.cache.now c.args.crew.shared.queue c.args.crew.shared.workers answers
    c.args.crew.reader
    → HaveDone (IsShareOf g.C.FlowCache c.args.cache.now) answers c.push-2.new.self.items
all g c answers handed =
    let W : Type 0 = Worker (Share g.row.C.Denot g.row.C-Pass.Denot) QueuePass in
    let Has = IsShareOf g.C.FlowCache c.args.cache.now in
    let ws = c.args.crew.workers.items in
    let told = c.in_ok-shares.ensures in
    let drained = c.in_ok-work_batches.ensures in
    let first = reader_of c.args.crew.reader.feed in
    let seats = c.in_ok-shares.seats.items in
    let list = λ (w : W). answers_in (took_of w.seat) in
    let theirs : List Answer = flat_map list ws in
    let own = handed.own in
    let left : List Answer = answers_in drained.did.0 in
    let workers : HaveDone Has theirs c.in_ok-shares.shares.items =
    subst (HaveDone Has theirs) (sym told.shares)
    (told-each Has (λ (w : W). w.share) list ws
    (λ k d inside. ((c.requires.workers k d inside).1 (told.finished k d inside)).is)) in
    let have = one-more Has (theirs ++ own) left _ _ _ c.in_ok-push-2.ensures.items
    (one-more Has theirs own _ _ _ c.in_ok-push.ensures.items workers handed.is)
    (drained.did.2.besides [] c.requires.last) in
    let count = c.requires.many.0 ∙ sym (ap length told.seats ∙ length-map ws (λ (w : W). w.seat)) in
    let put = all-taken c.args.crew.shared.queue seats first c.unite_all-seat.result
    c.work_batches.new.seat drained.did.0
    (subst (λ n. IsFirst c.args.crew.shared.queue n first) count handed.first)
    (subst (λ p. IsForAll seats p c.unite_all-seat.result) c.into_pass.ensures c.unite_all-seat.ensures.all)
    drained.did.1 drained.all in
    let are : answers_in (flat_map took_of seats) ≡ theirs =
    ap (λ l. answers_in (flat_map took_of l)) told.seats
    ∙ ap answers_in (flat_map-map took_of (λ (w : W). w.seat) ws)
    ∙ flat-flat answers_of_batch (λ (w : W). took_of w.seat) ws in
    reordered Has ((theirs ++ own) ++ left) answers _
    (all-answers answers own theirs (put_of first) drained.did.0 seats handed.all put are) have

pub unite_shares-requires-clause-metered : goal.unite_shares-requires-clause-metered
unite_shares-requires-clause-metered g c κs within =
    let handed = c.requires.handed in
    (handed.0, all g (goal.at.unite_shares-requires-clause-metered g c).In_ok-push-2 handed.0 handed.1)

pub returns-clause-metered : goal.returns-clause-metered
returns-clause-metered g c = λ answers handed.
    c.unite_shares.ensures.metered answers
    (all g (goal.at.returns-clause-metered g c).In_ok-push-2 answers handed)

pub returns-clause-own : goal.returns-clause-own
returns-clause-own g c =
    let W : Type 0 = Worker (Share g.row.C.Denot g.row.C-Pass.Denot) QueuePass in
    let ws = c.args.crew.workers.items in
    let one = longer _ _ _ c.in_ok-push.ensures.items in
    let two = longer _ _ _ c.in_ok-push-2.ensures.items in
    let had = ap length c.in_ok-shares.ensures.shares ∙ length-map ws (λ (w : W). w.share) in
    let all : length c.push-2.new.self.items ≡ length ws + 2 = omega (arith, one, two, had) in
    subst (λ k. IfOk c.unite_shares.result
    (λ r. g.C.FlowCache.is_of c.args.cache.now r.pass × ((g.C.FlowCache.shown r.pass).note.seats ≡ k))) all
    c.unite_shares.ensures.own
