use Rattle.meter_workers.proofs.Common.{◌≡◌, ℕ, ◌≤◌, ◌*◌, ◌∙◌, sym, subst, length, arith, All, file_of, DrawPass}
use Rattle.meter_workers.proofs.Common.{answers_by, answers-count, Share, Worker, Finished, IsShareOf, all-mapped}
use Rattle.work_pieces.specs.Passes.{IsPassOf, IsFresh}
use Rattle.work_pieces.proofs.Cutting.{enough}
use Rattle.work_pieces.proofs.Doing.{DidSome, each-done, still-many}
use Rattle.work_pieces.proofs.Working.{all-drawn, all-done}
use Rattle.meter_workers.proofs.windows.meter_part.Given as given
use Rattle.meter_workers.proofs.windows.meter_part.Goals as goal

abbrev W : given.Over → Type 0
W g = Worker (Share g.row.C.Denot g.row.C-Pass.Denot) DrawPass

pub run_workers-workers-requires-clause-ready : goal.run_workers-workers-requires-clause-ready
run_workers-workers-requires-clause-ready g c κs within =
    let Has = IsShareOf g.C.FlowCache c.args.cache.now in
    let had = c.requires.metered in
    let Draw : DrawPass → Type 0 = λ d. IsPassOf c.in_ok-pieces.pieces d × IsFresh d in
    let shares = all-mapped (DidSome Has had.0) (λ (w : W g). w.share) _
    (subst (All (DidSome Has had.0)) (sym c.in_ok-workers.ensures.shares)
    (each-done Has had.0 c.args.shares.items had.2)) in
    let draws = all-mapped Draw (λ (w : W g). w.seat) _
    (subst (All Draw) (sym c.in_ok-workers.ensures.seats) c.in_ok-pieces.ensures.passes.1) in
    λ k d inside.
    let s = shares k d inside in
    let t = draws k d inside in
    record {
      done = s.0;
      is = s.2;
      draws = t.0;
      fresh = t.1;
      few = (let le = s.1 in let base = had.1 in omega (arith, le, base, s.2.tallied.captured));
    }

pub complete_all-requires-clause-ended : goal.complete_all-requires-clause-ended
complete_all-requires-clause-ended g c =
    all-drawn (IsShareOf g.C.FlowCache c.args.cache.now) (λ (w : W g). w.share) (λ w. w.seat) (λ w. w.state ≡ Finished)
    c.in_ok-pieces.pieces (answers_by c.args.part.now) _ _ _ c.in_ok-shares.ensures.seats
    c.in_ok-shares.ensures.finished c.run_workers-workers.ensures.worked

pub complete_all-requires-clause-all : goal.complete_all-requires-clause-all
complete_all-requires-clause-all g c =
    let many = still-many _ (λ (w : W g). w.share) (λ w. w.seat) _ _ _ _ c.in_ok-workers.ensures.shares
    c.in_ok-shares.ensures.seats c.run_workers-workers.ensures.worked in
    let seats = c.in_ok-pieces.ensures.pieces.2 in
    (omega (arith, many, c.requires.some.0), omega (arith, many, seats, c.args.shares.ok.0))

pub returns-clause-many : goal.returns-clause-many
returns-clause-many g c =
    still-many _ (λ (w : W g). w.share) (λ w. w.share) _ _ _ _ c.in_ok-workers.ensures.shares
    c.in_ok-shares.ensures.shares c.run_workers-workers.ensures.worked

pub returns-clause-metered : goal.returns-clause-metered
returns-clause-metered g c = λ before have.
    let part = c.args.part.now in
    let all : length (answers_by part) ≡ c.count.result =
    answers-count part.base (file_of part.capture) ∙ sym part.indexed.count ∙ sym c.count.ensures in
    let told = c.in_ok-pieces.ensures.pieces in
    let long = subst (λ (n : ℕ × ℕ × ℕ). n.0 ≤ n.1 * n.2) (λ i. (sym all i, sym told.3 i, sym told.1 i))
    (enough c.count.result c.args.piece c.requires.piece.0) in
    all-done (IsShareOf g.C.FlowCache c.args.cache.now) (λ (w : W g). w.share) (λ w. w.seat) (λ w. w.state ≡ Finished)
    c.in_ok-pieces.pieces (answers_by part) before _ _ _ _ _ c.in_ok-workers.ensures.shares
    c.in_ok-shares.ensures.shares c.in_ok-shares.ensures.seats c.in_ok-shares.ensures.finished
    c.run_workers-workers.ensures.worked c.complete_all.ensures long have
