-- The places of the buckets so far are in the lists of their shares.
use Rattle.std.proofs.Common.{◌≡◌, ◌≤◌, ◌++◌, take, length, IsPermutation}
use Rattle.record_ledger.specs.Buckets.{AreShared, bucket_places, places_of}
use Rattle.record_ledger.proofs.placing.add_all_places.Given as goal

abbrev pub invariant-loop-bucket : goal.invariant-loop-bucket
invariant-loop-bucket l = record {
  few : l.bucket ≤ length l.store.buckets.items;
  many : length l.order ≡ length l.fn.order;
  places : IsPermutation (places_of l.fn.order
      ++ bucket_places (length l.store.pieces.items) (take l.bucket l.store.buckets.items)) (places_of l.order);
  shared : AreShared l.shares l.fn.order → AreShared l.shares l.order;
}
