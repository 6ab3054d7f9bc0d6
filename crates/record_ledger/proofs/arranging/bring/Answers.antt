-- A turn swaps two records, or leaves them.
use Rattle.std.proofs.Common.{sym, subst, IsPermutation}
use Rattle.std.proofs.lemmas.List.Sorted.{IsPermutation-trans}
use Rattle.record_ledger.proofs.arranging.bring.Goals as goal
use Rattle.record_ledger.proofs.arranging.bring.Goals.{then-target-at, else-target-at+then-target-count}
use Rattle.record_ledger.proofs.arranging.bring.Goals.{else-target-at+else-target-count}

pub loop-preserved : goal.loop-preserved
loop-preserved c = record {
  permuted = elim c.if-target-at.branch [
    | then-target-at w ↦ subst (IsPermutation c.args.records.now) (sym w.records-is) c.loop.invariant.permuted
    | else-target-at+then-target-count w ↦ subst (IsPermutation c.args.records.now) (sym w.records-is)
        (IsPermutation-trans _ _ _ c.loop.invariant.permuted w.swap.ensures.permutation)
    | else-target-at+else-target-count w ↦
        subst (IsPermutation c.args.records.now) (sym w.records-is) c.loop.invariant.permuted
  ];
}
