-- The fragments that are left, and those that are moved, are all that belong to these buckets.
use Rattle.std.proofs.Common.{◌≡◌, ◌++◌, List, drop, length, IsPermutation}
use Rattle.std.specs.List.{AllZip}
use Rattle.flow_parts.specs.declared.fragment.Fragment.{Fragment}
use Rattle.record_ledger.specs.Lawful.{parts_of}
use Rattle.record_ledger.specs.Buckets.{records_of, LieFrom, IsPartPlaceOf, parts_to}
use Rattle.record_ledger.proofs.moving.move_these.Given as goal

abbrev pub invariant-loop-place : goal.invariant-loop-place
invariant-loop-place l = record {
  many : length l.buckets ≡ length l.fn.buckets;
  whole : (parts : List Fragment) → AllZip (IsPartPlaceOf l.pieces) parts l.places
      → IsPermutation (parts_to l.count l.first (length l.fn.buckets) parts ++ parts_of (records_of l.fn.buckets))
      (parts_to l.count l.first (length l.fn.buckets) (drop l.place-index parts) ++ parts_of (records_of l.buckets));
  by_key : LieFrom l.count l.first l.fn.buckets → LieFrom l.count l.first l.buckets;
}
