-- Each turn adds the places of one more bucket.
use Rattle.std.proofs.Common.{◌<◌, length, arith, ◌∙◌}
use Rattle.record_ledger.specs.Buckets.{places_of}
use Rattle.record_ledger.proofs.Placed.{some_at}
use Rattle.record_ledger.proofs.Shared.{bucket_added}
use Rattle.record_ledger.proofs.placing.add_all_places.Goals as goal

pub loop-bucket-preserved : goal.loop-bucket-preserved
loop-bucket-preserved c =
    let store = c.args.store.now in
    let buckets = store.buckets.items in
    let i = c.loop-bucket.bucket in
    let more : i < length buckets = omega (arith, c.loop-bucket-test.true, c.len-bucket-end.ensures, store.buckets.ok.0) in
    let b = some_at buckets i more in
    record {
      few = omega (arith, more);
      many = c.in_ok-add_places.ensures.many ∙ c.loop-bucket.invariant.many;
      places = bucket_added (length store.pieces.items) i buckets b.0 (places_of c.args.order.now)
          (places_of c.loop-bucket.order) (places_of c.add_places.new.order) more
          b.2 c.loop-bucket.invariant.places
          (c.in_ok-add_places.ensures.places b.0 b.1);
      shared = λ h. c.in_ok-add_places.ensures.shared (c.loop-bucket.invariant.shared h);
    }
