use Rattle.meter_workers.proofs.Common.{◌≡◌, ◌+◌, ◌*◌, ◌≤◌, ◌++◌, List, length, sym, ap, ◌∙◌, subst, arith, slice_range}
use Rattle.meter_workers.proofs.Common.{file_of, size_of, drawn_of, Answer, answers_by, answers-count, pieces_of}
use Rattle.meter_workers.proofs.Common.{HasMetered, IsShareOf, done-none, done-more, IsBehind}
use Rattle.std.proofs.Common.{min}
use Rattle.cache_face.proofs.Apart.{snoc}
use Rattle.work_pieces.specs.Cutting.{piece_of}
use Rattle.work_pieces.proofs.Cutting.{behind-none, behind-next, behind-more}
use Rattle.meter_workers.proofs.windows.work_through.Goals.{In-Some}
use Rattle.meter_workers.proofs.windows.work_through.Given as given
use Rattle.meter_workers.proofs.windows.work_through.Goals as goal

pub loop-draw-init : goal.loop-draw-init
loop-draw-init g c =
    let fresh = c.requires.ready.fresh in
    let size = size_of c.args.pieces.now in
    let share = c.args.share.now in
    record {
      draws = c.requires.ready.draws;
      seat = fresh.1;
      share = subst (λ (l : List Answer). HasMetered g.C.FlowCache c.args.cache.now l share share)
          (sym (ap (pieces_of size (answers_by c.args.part.now)) fresh.3))
          (done-none (IsShareOf g.C.FlowCache c.args.cache.now) share);
      behind = behind-none size share.tally.captured (drawn_of c.args.draw.now);
    }

pub meter_run-requires-clause-share : goal.meter_run-requires-clause-share
meter_run-requires-clause-share g c κs within =
    (_, c.loop-draw.invariant.share.besides c.requires.ready.done c.requires.ready.is)

-- no more records were tallied than stand before the piece that was drawn
tallied : (g : given.Over) (c : In-Some g) → c.loop-draw.share.tally.captured
    ≤ c.args.share.now.tally.captured + c.in-Some.piece.number * size_of c.args.pieces.now
tallied g c = behind-next _ _ _ _ _ c.loop-draw.invariant.behind c.in-Some.ensures.rises

pub meter_run-requires-clause-room : goal.meter_run-requires-clause-room
meter_run-requires-clause-room g c κs within =
    let next = tallied g (goal.at.meter_run-requires-clause-room g c).In-Some in
    omega (
      arith,
      next,
      c.args.part.now.few,
      c.requires.ready.few,
      c.in-Some.ensures.some.0,
      c.in-Some.ensures.within.2,
      c.requires.whole,
    )

pub loop-draw-preserved : goal.loop-draw-preserved
loop-draw-preserved g c =
    let part = c.args.part.now in
    let answers = answers_by part in
    let size = size_of c.args.pieces.now in
    let piece = c.in-Some.piece in
    let n = piece.number in
    let some = c.in-Some.ensures.some in
    let told = c.in_ok-meter_run.ensures in
    let drawn = drawn_of c.loop-draw.draw in
    let stop : piece.end ≡ min ((n + 1) * size) (length answers) =
    some.1 ∙ ap (min ((n + 1) * size))
    (c.requires.whole ∙ part.indexed.count ∙ sym (answers-count part.base (file_of part.capture))) in
    let within : piece.end ≤ (n + 1) * size = omega (arith, stop) in
    let next = tallied g (goal.at.loop-draw-preserved g c).In-Some in
    let own : slice_range answers piece.start piece.end ≡ piece_of size answers n =
    (λ i. slice_range answers (some.0 i) (stop i)) in
    record {
      draws = c.draw.ensures.own.0;
      seat = c.draw.ensures.own.1;
      share = subst (λ (l : List Answer). HasMetered g.C.FlowCache c.args.cache.now l c.args.share.now
          c.meter_run.new.share)
          (ap (λ (l : List Answer). pieces_of size answers drawn ++ l) own
          ∙ sym (ap (pieces_of size answers) some.2 ∙ snoc (piece_of size answers) drawn n))
          (done-more (IsShareOf g.C.FlowCache c.args.cache.now) _ _ _ c.loop-draw.share _
          c.loop-draw.invariant.share told.share);
      behind = subst (λ l. IsBehind size c.args.share.now.tally.captured l c.meter_run.new.share.tally.captured)
          (sym some.2)
          (behind-more size c.args.share.now.tally.captured n c.loop-draw.share.tally.captured
          c.meter_run.new.share.tally.captured piece.end drawn within next (omega (arith, told.captured, some.0)));
    }

-- Each piece has a record at least, and no more are tallied than there are.
pub loop-draw-smaller : goal.loop-draw-smaller
loop-draw-smaller g c =
    let told = c.in_ok-meter_run.ensures in
    let piece = c.in-Some.ensures in
    let next = tallied g (goal.at.loop-draw-smaller g c).In-Some in
    omega (arith, told.captured, next, piece.some.0, piece.within.0, piece.within.1, piece.within.2, c.requires.whole)
