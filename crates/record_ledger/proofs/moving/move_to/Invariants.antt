-- The fragments of the lists that are left, and those that are moved, are all that belong to these buckets.
use Rattle.std.proofs.Common.{◌≡◌, ◌++◌, List, drop, length, IsPermutation}
use Rattle.std.specs.List.{AllZip}
use Rattle.flow_parts.specs.declared.fragment.Fragment.{Fragment}
use Rattle.record_ledger.specs.Lawful.{parts_of}
use Rattle.record_ledger.specs.Buckets.{records_of, LieFrom, IsPartPlaceOf, parts_to, places_of}
use Rattle.record_ledger.proofs.moving.move_to.Given as goal

abbrev pub invariant-loop-places : goal.invariant-loop-places
invariant-loop-places l = record {
  many : length l.buckets ≡ length l.fn.buckets;
  whole : (parts : List Fragment) → AllZip (IsPartPlaceOf l.pieces) parts (places_of l.moved)
      → (left : List Fragment) × AllZip (IsPartPlaceOf l.pieces) left (places_of (drop l.places-index l.moved))
      × IsPermutation (parts_to l.count l.first (length l.fn.buckets) parts ++ parts_of (records_of l.fn.buckets))
      (parts_to l.count l.first (length l.fn.buckets) left ++ parts_of (records_of l.buckets));
  by_key : LieFrom l.count l.first l.fn.buckets → LieFrom l.count l.first l.buckets;
}
