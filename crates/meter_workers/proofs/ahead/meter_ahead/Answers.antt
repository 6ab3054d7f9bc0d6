use Rattle.meter_workers.proofs.Common.{◌≡◌, ℕ, ◌≤◌, ◌*◌, ◌∙◌, sym, subst, length, arith, All, file_of, DrawPass}
use Rattle.meter_workers.proofs.Common.{answers_by, answers-count, Share, Worker, Finished, IsShareOf, all-mapped}
use Rattle.meter_workers.proofs.Common.{err_from_is_err_and}
use Rattle.std.proofs.lemmas.Result.{IfOk-at_ok, IfErr-at_err}
use Rattle.work_pieces.specs.Passes.{IsPassOf, IsFresh}
use Rattle.work_pieces.proofs.Cutting.{enough}
use Rattle.work_pieces.proofs.Doing.{DidSome, each-done, still-many}
use Rattle.work_pieces.proofs.Working.{all-drawn, all-done}
use Rattle.meter_workers.proofs.ahead.meter_ahead.Given as given
use Rattle.meter_workers.proofs.ahead.meter_ahead.Goals as goal

abbrev W : given.Over → Type 0
W g = Worker (Share g.row.C.Denot g.row.C-Pass.Denot) DrawPass

pub run_ahead-workers-requires-clause-ready : goal.run_ahead-workers-requires-clause-ready
run_ahead-workers-requires-clause-ready g c κs within =
    let Has = IsShareOf g.C.FlowCache c.args.cache.now in
    let had = c.requires.metered in
    let Draw : DrawPass → Type 0 = λ d. IsPassOf c.in-Ok.pieces d × IsFresh d in
    let shares = all-mapped (DidSome Has had.0) (λ (w : W g). w.share) _
    (subst (All (DidSome Has had.0)) (sym c.in-Ok-seat_workers.ensures.shares)
    (each-done Has had.0 c.args.shares.items had.2)) in
    let draws = all-mapped Draw (λ (w : W g). w.seat) _
    (subst (All Draw) (sym c.in-Ok-seat_workers.ensures.seats) c.in-Ok.ensures.passes.1) in
    λ k d inside.
    let s = shares k d inside in
    let t = draws k d inside in
    record {
      done = s.0;
      is = s.2;
      draws = t.0;
      fresh = t.1;
      few = (let le = s.1 in let base = had.1 in omega (arith, le, base, s.2.tallied.captured));
    }

pub complete_all-requires-clause-ended : goal.complete_all-requires-clause-ended
complete_all-requires-clause-ended g c =
    all-drawn (IsShareOf g.C.FlowCache c.args.cache.now) (λ (w : W g). w.share) (λ w. w.seat) (λ w. w.state ≡ Finished)
    c.in-Ok.pieces (answers_by c.args.part.now) _ _ _ c.in-Ok-unseat_workers.ensures.seats
    c.in-Ok-unseat_workers.ensures.finished c.run_ahead-workers.ensures.worked

pub complete_all-requires-clause-all : goal.complete_all-requires-clause-all
complete_all-requires-clause-all g c =
    let many = still-many _ (λ (w : W g). w.share) (λ w. w.seat) _ _ _ _ c.in-Ok-seat_workers.ensures.shares
    c.in-Ok-unseat_workers.ensures.seats c.run_ahead-workers.ensures.worked in
    let seats = c.in-Ok.ensures.pieces.2 in
    (omega (arith, many, c.requires.some.0), omega (arith, many, seats, c.args.shares.ok.0))

pub returns-clause-many : goal.returns-clause-many
returns-clause-many g c =
    still-many _ (λ (w : W g). w.share) (λ w. w.share) _ _ _ _ c.in-Ok-seat_workers.ensures.shares
    c.in-Ok-unseat_workers.ensures.shares c.run_ahead-workers.ensures.worked

pub returns-clause-metered : goal.returns-clause-metered
returns-clause-metered g c = λ before have.
    let part = c.args.part.now in
    let all : length (answers_by part) ≡ c.count.result =
    answers-count part.base (file_of part.capture) ∙ sym part.indexed.count ∙ sym c.count.ensures in
    let told = c.in-Ok.ensures.pieces in
    let long = subst (λ (n : ℕ × ℕ × ℕ). n.0 ≤ n.1 * n.2) (λ i. (sym all i, sym told.3 i, sym told.1 i))
    (enough c.count.result c.args.piece c.requires.piece.0) in
    all-done (IsShareOf g.C.FlowCache c.args.cache.now) (λ (w : W g). w.share) (λ w. w.seat) (λ w. w.state ≡ Finished)
    c.in-Ok.pieces (answers_by part) before _ _ _ _ _ c.in-Ok-seat_workers.ensures.shares
    c.in-Ok-unseat_workers.ensures.shares c.in-Ok-unseat_workers.ensures.seats c.in-Ok-unseat_workers.ensures.finished
    c.run_ahead-workers.ensures.worked c.complete_all.ensures long have

pub returns-in_err-read-clause-refused : goal.returns-in_err-read-clause-refused
returns-in_err-read-clause-refused g c = λ before limit answers had.
    let p = err_from_is_err_and c.from_residual.result c.from_residual.ensures.1 in
    rw (p.1, p.2)
    (IfErr-at_err _ c.in_err-read.was (c.run_ahead-workers.ensures.read.refused before limit answers had))

pub returns-in_default-unseat_workers-clause-refused : goal.returns-in_default-unseat_workers-clause-refused
returns-in_default-unseat_workers-clause-refused g c = λ before limit answers had.
    let given = (IfOk-at_ok _ c.in_ok-read.was (c.run_ahead-workers.ensures.read.given before limit answers had)).1 in
    (given.file.bytes, (let w = given.within in let n = given.count in omega (arith, w, n)), given.given)
