-- The records are permuted.
use Rattle.std.proofs.Common.{IsPermutation}
use Rattle.record_ledger.proofs.arranging.bring.Given as goal

abbrev pub invariant-loop : goal.invariant-loop
invariant-loop l = record {
  permuted : IsPermutation l.initial.records l.records;
}
