-- The places of the records so far are in the lists of their shares.
use Rattle.std.proofs.Common.{◌≡◌, ◌+◌, ◌++◌, Some, take, length, IsPermutation}
use Rattle.std.specs.Prelude.{slice_get}
use Rattle.record_ledger.specs.Buckets.{AreShared, Bucket, places_from, places_of}
use Rattle.record_ledger.proofs.placing.add_places.Given as goal

abbrev pub invariant-loop-at : goal.invariant-loop-at
invariant-loop-at l = record {
  end : (b : Bucket) → slice_get l.store.buckets.items l.bucket ≡ Some b → l.at-end ≡ length b.items;
  number : l.number ≡ length l.store.pieces.items + l.bucket;
  many : length l.order ≡ length l.fn.order;
  places : (b : Bucket) → slice_get l.store.buckets.items l.bucket ≡ Some b
      → IsPermutation (places_of l.fn.order ++ places_from l.number 0 (take l.at b.items)) (places_of l.order);
  shared : AreShared l.shares l.fn.order → AreShared l.shares l.order;
}
