-- What the workers metered meanwhile comes before the part that was read.
use Rattle.meter_workers.proofs.Common.{◌≡◌, ◌++◌, ◌∙◌, ℕ, rules, List, ap, subst, arith, err_from_is_err_and}
use Rattle.meter_workers.proofs.Common.{Answer, answers_from, part_of, part_in, base_in, HaveDone, IsShareOf}
use Rattle.meter_workers.proofs.ahead.step_ahead.Goals as goal

pub meter_ahead-requires-clause-read : goal.meter_ahead-requires-clause-read
meter_ahead-requires-clause-read g c κs within =
    let had = c.requires.metered in
    let kept = c.take_bytes-bytes.ensures in
    record {
      more = λ last. c.requires.more (kept.same.2.0 last);
      given = (had.0, had.1, _, kept.given _ _ _ _ had.2.given);
    }

pub returns-in_err-shares-clause-refused : goal.returns-in_err-shares-clause-refused
returns-in_err-shares-clause-refused g c = λ before limit had.
    let p = err_from_is_err_and c.from_residual.result c.from_residual.ensures.1 in
    rw (p.1, p.2)
    (c.in_err-shares.ensures.refused before limit _ (c.take_bytes-bytes.ensures.given _ _ _ _ had.given))

pub returns-in_default-clause-refused : goal.returns-in_default-clause-refused
returns-in_default-clause-refused g c = λ before limit had.
    let given = (c.in_ok-shares.ensures.read.given before limit _
    (c.take_bytes-bytes.ensures.given _ _ _ _ had.given)).1 in
    (given.file.bytes, (let w = given.within in let n = given.count in omega (arith, w, n)), given.given)

pub returns-clause-metered : goal.returns-clause-metered
returns-clause-metered g c = λ before limit had.
    let kept = c.take_bytes-bytes.ensures in
    let read = c.in_ok-shares.ensures.read in
    let next = read.given before limit _ (kept.given _ _ _ _ had.given) in
    let was = c.args.standing.reading in
    let same : answers_from c.base-base.result (part_of c.head-head.result c.take_bytes-bytes.result.0.items)
    ≡ answers_from (base_in was) (part_in was) =
    (λ i. answers_from (c.base-base.ensures i) (part_of (c.head-head.ensures i) c.take_bytes-bytes.result.0.items))
    ∙ ap (answers_from (base_in was)) kept.part in
    let bytes : c.as_slice.result.now ≡ c.take_bytes-bytes.result.0.items = search rules in
    let by = ap (answers_from c.base-base.result) c.part.ensures.part
    ∙ ap (λ (b : List ℕ). answers_from c.base-base.result (part_of c.head-head.result b)) bytes ∙ same in
    record {
      part = read.part;
      few = read.few;
      size_is = read.same ∙ kept.same.0 ∙ had.size_is;
      spare = c.in-Ok.ensures;
      answers = had.answers ++ answers_from (base_in was) (part_in was);
      base = next.0;
      given = next.1;
      done = subst (λ (l : List Answer). HaveDone (IsShareOf g.C.FlowCache c.args.cache.now) (had.answers ++ l)
          c.in_ok-shares.shares.items) by (c.in_ok-shares.ensures.metered had.answers had.done);
    }
