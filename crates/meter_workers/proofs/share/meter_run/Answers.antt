use Rattle.meter_workers.proofs.Common.{◌≡◌, ◌+◌, List, refl, sym, subst, arith, slice_range, Answer, answers_by}
use Rattle.meter_workers.proofs.Common.{done-none, done-more, HasMetered, IsShareOf}
use Rattle.capture_input.proofs.Ranges.{range-none, range-both}
use Rattle.meter_workers.proofs.share.meter_run.Goals as goal

pub loop-n-init : goal.loop-n-init
loop-n-init g c = record {
  share = subst (λ (l : List Answer). HasMetered g.C.FlowCache c.args.cache.now l c.args.share.now c.args.share.now)
      (sym (range-none (answers_by c.args.part.now) c.args.from))
      (done-none (IsShareOf g.C.FlowCache c.args.cache.now) c.args.share.now);
  captured = refl;
  low = omega arith;
}

pub meter_record-requires-clause-share : goal.meter_record-requires-clause-share
meter_record-requires-clause-share g c κs within =
    let had = c.requires.share in (_, c.loop-n.invariant.share.besides had.0 had.1)

pub meter_record-requires-clause-room : goal.meter_record-requires-clause-room
meter_record-requires-clause-room g c κs within =
    (let i = c.loop-n.invariant in omega (arith, c.requires.room, i.captured, i.low, c.loop-n-test.true))

pub loop-n-preserved : goal.loop-n-preserved
loop-n-preserved g c =
    let answers = answers_by c.args.part.now in
    let n = c.loop-n.n in
    let i = c.loop-n.invariant in
    let told = c.in_ok-meter_record.ensures in
    record {
      share = subst (λ (l : List Answer). HasMetered g.C.FlowCache c.args.cache.now l c.args.share.now
          c.meter_record.new.share) (sym (range-both answers c.args.from n (n + 1) i.low (omega arith)))
          (done-more (IsShareOf g.C.FlowCache c.args.cache.now) _ _ _ c.loop-n.share _ i.share told.share);
      captured = omega (arith, told.captured, i.captured);
      low = (let low = i.low in omega (arith, low));
    }

pub returns-clause-share : goal.returns-clause-share
returns-clause-share g c =
    let end : c.loop-n.n ≡ c.args.to = omega (arith, c.loop-n-test.false, c.loop-n.auto.n-end, c.requires.run) in
    subst (λ n. HasMetered g.C.FlowCache c.args.cache.now (slice_range (answers_by c.args.part.now) c.args.from n)
    c.args.share.now c.loop-n.share) end c.loop-n.invariant.share
