-- A turn swaps two places, or leaves them.
use Rattle.std.proofs.Common.{sym, subst, IsPermutation}
use Rattle.std.proofs.lemmas.List.Sorted.{IsPermutation-trans}
use Rattle.record_ledger.proofs.spreading.bring.Goals as goal
use Rattle.record_ledger.proofs.spreading.bring.Goals.{then-at-end, else-at-end}

pub loop-preserved : goal.loop-preserved
loop-preserved g c = record {
  permuted = elim c.if-at-end.branch [
    | then-at-end w ↦ subst (IsPermutation c.args.order.now) (sym w.order-is)
        (IsPermutation-trans _ _ _ c.loop.invariant.permuted w.bring_one.ensures.permutation)
    | else-at-end w ↦ subst (IsPermutation c.args.order.now) (sym w.order-is) c.loop.invariant.permuted
  ];
}
