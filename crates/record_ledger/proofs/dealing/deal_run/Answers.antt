-- Each turn deals one more fragment.
use Rattle.std.proofs.Common.{◌≡◌, ◌++◌, Some, length, take, refl, sym, subst, arith}
use Rattle.std.specs.Prelude.{slice_get}
use Rattle.std.proofs.lemmas.Option.{slice_get_read}
use Rattle.record_ledger.specs.Buckets.{AreDealtTo, share_of}
use Rattle.record_ledger.proofs.Leaving.{one_taken}
use Rattle.record_ledger.proofs.dealing.deal_run.Goals as goal

pub loop-at-preserved : goal.loop-at-preserved
loop-at-preserved c =
    let piece = c.args.piece.now in
    let at = c.loop-at.at in
    let part = c.index-piece-at.result in
    let here : slice_get piece at ≡ Some part =
    slice_get_read piece (length piece) at part refl (omega (arith, c.loop-at-test.true)) c.index-piece-at.is in
    record {
      low = omega (arith, c.loop-at.invariant.low);
      high = omega (arith, c.loop-at-test.true);
      dealt = λ ends pieces p before marked at_piece same h.
          subst (λ l. AreDealtTo c.args.counts.now pieces (share_of ends c.args.share l)
          c.deal_part.new.dealing) (one_taken before piece at part here)
          (c.in_ok-deal_part.ensures c.args.counts.now ends c.args.share pieces p (before ++ take at piece)
          at_piece (subst (λ items. slice_get items at ≡ Some part) (sym same) here)
          (c.ways_of-ways.ensures ends marked at part c.loop-at.invariant.low c.loop-at-test.true here)
          (c.loop-at.invariant.dealt ends pieces p before marked at_piece same h));
    }
