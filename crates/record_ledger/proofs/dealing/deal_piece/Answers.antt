-- In the end all fragments of the piece are dealt.
use Rattle.std.proofs.Common.{◌++◌, subst, arith}
use Rattle.std.proofs.lemmas.List.{take_all}
use Rattle.record_ledger.specs.Buckets.{AreDealtTo, share_of}
use Rattle.record_ledger.proofs.dealing.deal_piece.Goals as goal

pub returns : goal.returns
returns c = λ ends pieces p before marked at_piece same h.
    subst (λ l. AreDealtTo c.args.counts.now pieces (share_of ends c.args.share (before ++ l))
    c.loop-from.dealing) (take_all c.loop-from.from c.args.piece.now (omega (arith, c.loop-from-test.false)))
    (c.loop-from.invariant.dealt ends pieces p before marked at_piece same h)
