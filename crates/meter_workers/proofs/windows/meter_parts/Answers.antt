use Rattle.meter_workers.proofs.Common.{◌≡◌, ◌++◌, ◌≤◌, ◌∙◌, ℕ, List, [], length, refl, sym, subst, arith}
use Rattle.meter_workers.proofs.Common.{err_from_is_err_and, Answer, answers_from, answers_by, HasGiven, part_in}
use Rattle.meter_workers.proofs.Common.{base_in, IsRefused, seen, HaveDone, nothing-done, IsShareOf}
use Rattle.meter_workers.proofs.windows.meter_parts.Goals.{In-Ok}
use Rattle.meter_workers.proofs.windows.meter_parts.Given as given
use Rattle.meter_workers.proofs.windows.meter_parts.Goals as goal

pub loop-shares-init : goal.loop-shares-init
loop-shares-init g c =
    let first = c.in_ok-reading.reading in
    let told = c.in_ok-reading.ensures in
    record {
      many = refl;
      part = told.part;
      few = told.few;
      read = (
        [],
        told.first.0,
        subst (λ (n : ℕ). HasGiven (g.S.Source.left c.args.source.now) (g.S.Source.left c.begin.new.source)
            c.args.windows.limit first (answers_from n (part_in first))) (sym told.first.0) told.given,
        nothing-done (IsShareOf g.C.FlowCache c.args.cache.now) c.args.shares.items c.requires.shares,
      );
      quiet = told.faults;
    }

pub meter_part-requires-clause-metered : goal.meter_part-requires-clause-metered
meter_part-requires-clause-metered g c κs within =
    let r = c.loop-shares.invariant.read in
    let few : length r.0 ≤ c.part-part.result.base =
    (let n = r.1 in let b = c.part-part.ensures.base in omega (arith, n, b)) in
    (r.0, few, r.3)

pub returns-in-Err-clause-refused : goal.returns-in-Err-clause-refused
returns-in-Err-clause-refused g c =
    let given = c.loop-shares.invariant.read.2 in
    (given.file.bytes, (let w = given.within in let n = given.count in omega (arith, w, n)), given.given)

pub tail-requires : goal.tail-requires
tail-requires g c = record { given = (_, _, _, _, c.loop-shares.invariant.read.2) }

-- the part was metered too
metered : (g : given.Over) (c : In-Ok g)
    → HaveDone (IsShareOf g.C.FlowCache c.args.cache.now) (c.loop-shares.invariant.read.0
    ++ answers_from (base_in c.loop-shares.reading) (part_in c.loop-shares.reading)) c.in-Ok.shares.items
metered g c =
    let r = c.loop-shares.invariant.read in
    let same : answers_by c.part-part.result
    ≡ answers_from (base_in c.loop-shares.reading) (part_in c.loop-shares.reading) =
    (λ i. answers_from (c.part-part.ensures.base i) (c.part-part.ensures.file i)) in
    subst (λ (l : List Answer). HaveDone (IsShareOf g.C.FlowCache c.args.cache.now) (r.0 ++ l) c.in-Ok.shares.items)
    same (c.in-Ok.ensures.metered r.0 r.3)

pub returns-then-is_last-clause-metered : goal.returns-then-is_last-clause-metered
returns-then-is_last-clause-metered g c = (
  _,
  c.tail.ensures _ _ _ _ c.loop-shares.invariant.read.2 (c.is_last.ensures.0 c.if-is_last.true),
  metered g (goal.at.returns-then-is_last-clause-metered g c).In-Ok,
)

pub next-requires-clause-given : goal.next-requires-clause-given
next-requires-clause-given g c = (_, _, _, c.loop-shares.invariant.read.2)

pub returns-in_err-reading-2-clause-refused : goal.returns-in_err-reading-2-clause-refused
returns-in_err-reading-2-clause-refused g c =
    let p = err_from_is_err_and c.from_residual-in_err-reading-2.result c.from_residual-in_err-reading-2.ensures.1 in
    rw (p.1, p.2)
    (subst (λ (n : ℕ). IsRefused (seen (g.S.Source.left c.args.source.now) (g.S.Source.left c.next.new.source) n
    (g.S.Source.faults c.next.new.source)) c.args.windows.limit c.in_err-reading-2.field-0.0)
    c.loop-shares.invariant.quiet (c.in_err-reading-2.ensures.refused _ _ _ c.loop-shares.invariant.read.2))

pub loop-shares-preserved : goal.loop-shares-preserved
loop-shares-preserved g c =
    let next = c.in_ok-reading-2.ensures in
    let told = next.given _ _ _ c.loop-shares.invariant.read.2 in
    record {
      many = c.in-Ok.ensures.many ∙ c.loop-shares.invariant.many;
      part = next.part;
      few = next.few;
      read = (_, told.0, told.1, metered g (goal.at.loop-shares-preserved g c).In-Ok);
      quiet = next.faults ∙ c.loop-shares.invariant.quiet;
    }
