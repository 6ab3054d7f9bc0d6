use Rattle.std.specs.Prelude.{Ok}
use Rattle.meter_workers.proofs.Emptied.{moved}
use Rattle.meter_workers.proofs.emptying.place_shares.Goals as goal

pub loop-share-preserved : goal.loop-share-preserved
loop-share-preserved g c = record {
  all = moved Ok _ _ c.in-Some.share _ _ _ c.in-Some.ensures.items c.in_ok-insert.ensures.items
      c.loop-share.invariant.all;
}
