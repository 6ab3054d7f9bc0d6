-- Each turn counts and marks one more fragment.
use Rattle.std.proofs.Common.{◌∷◌, ◌++◌, [], take, sym, ap, ◌∙◌, subst, arith, append_assoc}
use Rattle.std.proofs.lemmas.List.{take_all, take_more}
use Rattle.record_ledger.specs.Buckets.{CountsSlots, marks_of}
use Rattle.record_ledger.proofs.Marked.{mark_more}
use Rattle.record_ledger.proofs.dealing.count_piece.Goals as goal

pub loop-part-preserved : goal.loop-part-preserved
loop-part-preserved c =
    let i = c.loop-part.part-index in
    let part = c.part-item.result in
    record {
      counted = λ before h.
          subst (λ l. CountsSlots l c.count.new.self)
          (append_assoc before (take i c.args.piece.now) (part ∷ [])
          ∙ ap (λ l. before ++ l) (ap (λ p. take i c.args.piece.now ++ p ∷ []) c.part-item.is
          ∙ sym (take_more c.args.piece.now i part (omega (arith, c.loop-part-test.true)))))
          (c.count.ensures.counts (before ++ take i c.args.piece.now) (c.loop-part.invariant.counted before h));
      many = c.count.ensures.many ∙ c.loop-part.invariant.many;
      marked = mark_more c.args.shares.now c.args.piece.now c.loop-part.marks.items c.push.new.self.items i c.number.result
          part (omega (arith, c.loop-part-test.true)) c.part-item.is c.loop-part.invariant.marked c.number.ensures.number
          c.in_ok-push.ensures.items;
    }

pub returns-clause-counts : goal.returns-clause-counts
returns-clause-counts c = λ before h.
    subst (λ l. CountsSlots (before ++ l) c.loop-part.counts)
    (take_all c.loop-part.part-index c.args.piece.now (omega (arith, c.loop-part-test.false)))
    (c.loop-part.invariant.counted before h)

pub returns-clause-marks : goal.returns-clause-marks
returns-clause-marks c = c.loop-part.invariant.marked ∙ ap (marks_of c.args.shares.now)
    (take_all c.loop-part.part-index c.args.piece.now (omega (arith, c.loop-part-test.false)))
