-- The part that was read last comes behind what was metered; the last one is metered in its place.
use Rattle.meter_workers.proofs.Common.{◌≡◌, ◌++◌, ◌∙◌, ℕ, List, [], rules, refl, sym, subst, arith}
use Rattle.meter_workers.proofs.Common.{err_from_is_err_and, Answer, answers_from, answers_by, HasGiven, part_in}
use Rattle.meter_workers.proofs.Common.{base_in, IsRefused, seen, HaveDone, nothing-done, IsShareOf}
use Rattle.meter_workers.proofs.ahead.meter_parts_ahead.Goals as goal

pub loop-source-init : goal.loop-source-init
loop-source-init g c =
    let first = c.in_ok-reading.reading in
    let told = c.in_ok-reading.ensures in
    record {
      many = refl;
      way =
          record {
            part = told.part;
            few = told.few;
            size_is = told.first.1;
            spare = c.in-Ok.ensures;
            answers = [];
            base = told.first.0;
            given = subst (λ (n : ℕ). HasGiven (g.S.Source.left c.args.source.now) (g.S.Source.left c.begin.new.source)
                c.args.windows.limit first (answers_from n (part_in first))) (sym told.first.0) told.given;
            done = nothing-done (IsShareOf g.C.FlowCache c.args.cache.now) c.args.shares.items c.requires.shares;
          };
      quiet = told.faults;
    }

pub returns-in_err-standing-clause-refused : goal.returns-in_err-standing-clause-refused
returns-in_err-standing-clause-refused g c =
    let p = err_from_is_err_and c.from_residual-in_err-standing.result c.from_residual-in_err-standing.ensures.1 in
    rw (p.1, p.2)
    (subst (λ (n : ℕ). IsRefused (seen (g.S.Source.left c.args.source.now) (g.S.Source.left c.step_ahead.new.source) n
    (g.S.Source.faults c.step_ahead.new.source)) c.args.windows.limit c.in_err-standing.field-0.0)
    c.loop-source.invariant.quiet (c.in_err-standing.ensures.refused _ _ c.loop-source.invariant.way))

pub loop-source-preserved : goal.loop-source-preserved
loop-source-preserved g c =
    let told = c.in_ok-standing.ensures in
    let known = c.loop-source.invariant in
    record {
      many = told.many ∙ known.many;
      way = told.metered _ _ known.way;
      quiet = told.faults ∙ known.quiet;
    }

pub returns-in-Ok-meter_part-clause-metered : goal.returns-in-Ok-meter_part-clause-metered
returns-in-Ok-meter_part-clause-metered g c =
    let way = c.loop-source.invariant.way in
    let same : answers_by c.part-part.result
    ≡ answers_from (base_in c.loop-source.standing.reading) (part_in c.loop-source.standing.reading) =
    (λ i. answers_from (c.part-part.ensures.base i) (c.part-part.ensures.file i)) in (
      _,
      c.tail.ensures _ _ _ _ way.given (c.is_last.ensures.0 (let t = c.loop-source-test.false in search (rules, t))),
      subst (λ (l : List Answer). HaveDone (IsShareOf g.C.FlowCache c.args.cache.now) (way.answers ++ l)
          c.in-Ok-meter_part.shares.items) same (c.in-Ok-meter_part.ensures.metered way.answers way.done),
    )

pub returns-clause-refused : goal.returns-clause-refused
returns-clause-refused g c =
    let given = c.loop-source.invariant.way.given in
    (given.file.bytes, (let w = given.within in let n = given.count in omega (arith, w, n)), given.given)
