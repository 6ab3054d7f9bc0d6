-- A part after the other is handed on.
use Rattle.meter_workers.proofs.Common.{ℕ, [], sym, ◌∙◌, subst, arith, err_from_is_err_and, IsRefused}
use Rattle.meter_workers.proofs.Common.{answers_from, HasGiven, part_in, seen}
use Rattle.meter_workers.proofs.batches.read_all.Goals as goal

pub loop-read-init : goal.loop-read-init
loop-read-init g c =
    let told = c.in_ok-reading.ensures in
    let reading = c.in_ok-reading.reading in
    record {
      part = told.part;
      few = told.few;
      size = told.first.1;
      at = c.requires.«open»;
      quiet = told.faults;
      done = (
        [],
        told.first.0,
        subst (λ (n : ℕ). HasGiven (g.S.Source.left c.args.source.now) (g.S.Source.left c.begin.new.source)
            c.args.limit reading (answers_from n (part_in reading))) (sym told.first.0) told.given,
        c.requires.fresh,
      );
    }

pub hand_part-requires-clause-handed : goal.hand_part-requires-clause-handed
hand_part-requires-clause-handed g c κs within = (let done = c.loop-read.invariant.done in (done.0, done.1, done.3))

pub returns-in-Err-clause-refused : goal.returns-in-Err-clause-refused
returns-in-Err-clause-refused g c =
    let given = c.loop-read.invariant.done.2 in
    (given.file.bytes, (let w = given.within in let n = given.count in omega (arith, w, n)), given.given)

pub tail-requires : goal.tail-requires
tail-requires g c = record { given = (_, _, _, _, c.in-Ok.ensures.given _ _ _ _ c.loop-read.invariant.done.2) }

pub returns-then-is_last-clause-read : goal.returns-then-is_last-clause-read
returns-then-is_last-clause-read g c =
    let done = c.loop-read.invariant.done in
    let told = c.in-Ok.ensures in (
      _,
      c.tail.ensures _ _ _ _ (told.given _ _ _ _ done.2) (c.is_last.ensures.0 c.if-is_last.true),
      told.handed done.0 done.1 done.3,
    )

pub next-requires-clause-given : goal.next-requires-clause-given
next-requires-clause-given g c = (_, _, _, c.in-Ok.ensures.given _ _ _ _ c.loop-read.invariant.done.2)

pub returns-in_err-reading-2-clause-refused : goal.returns-in_err-reading-2-clause-refused
returns-in_err-reading-2-clause-refused g c =
    let p = err_from_is_err_and c.from_residual-in_err-reading-2.result c.from_residual-in_err-reading-2.ensures.1 in
    rw (p.1, p.2)
    (subst (λ (n : ℕ). IsRefused (seen (g.S.Source.left c.args.source.now) (g.S.Source.left c.next.new.source) n
    (g.S.Source.faults c.next.new.source)) c.args.limit c.in_err-reading-2.field-0.0) c.loop-read.invariant.quiet
    (c.in_err-reading-2.ensures.refused _ _ _ (c.in-Ok.ensures.given _ _ _ _ c.loop-read.invariant.done.2)))

pub loop-read-preserved : goal.loop-read-preserved
loop-read-preserved g c =
    let known = c.loop-read.invariant in
    let told = c.in-Ok.ensures in
    let then = c.in_ok-reading-2.ensures in
    let given = then.given _ _ _ (told.given _ _ _ _ known.done.2) in
    record {
      part = then.part;
      few = then.few;
      size = then.same ∙ told.same.0 ∙ known.size;
      at = told.«open»;
      quiet = then.faults ∙ known.quiet;
      done = (_, given.0, given.1, told.handed known.done.0 known.done.1 known.done.3);
    }
