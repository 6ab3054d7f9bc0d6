-- The fragments that are left, and those that are moved, are all of them.
use Rattle.std.proofs.Common.{◌≡◌, ◌++◌, drop, length, IsPermutation}
use Rattle.record_ledger.specs.Lawful.{parts_of}
use Rattle.record_ledger.specs.Buckets.{records_of, AreByKey}
use Rattle.record_ledger.proofs.moving.move_parts.Given as goal

abbrev pub invariant-loop-part : goal.invariant-loop-part
invariant-loop-part l = record {
  many : length l.buckets ≡ length l.fn.buckets;
  whole : IsPermutation (l.fn.parts ++ parts_of (records_of l.fn.buckets))
      (drop l.part-index l.fn.parts ++ parts_of (records_of l.buckets));
  by_key : AreByKey l.fn.buckets → AreByKey l.buckets;
}
