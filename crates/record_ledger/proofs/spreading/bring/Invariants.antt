-- The places are permuted.
use Rattle.std.proofs.Common.{IsPermutation}
use Rattle.record_ledger.proofs.spreading.bring.Given as goal

abbrev pub invariant-loop : goal.invariant-loop
invariant-loop g l = record {
  permuted : IsPermutation l.initial.order l.order;
}
