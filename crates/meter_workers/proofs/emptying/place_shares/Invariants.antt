use Rattle.meter_workers.proofs.Common.{◌≡◌, ◌++◌, map, vec_len}
use Rattle.std.specs.Prelude.{Ok}
use Rattle.meter_workers.proofs.emptying.place_shares.Given as goal

abbrev pub invariant-loop-share : goal.invariant-loop-share
invariant-loop-share g l = record {
  all : map Ok l.shares.items ++ l.places.items ≡ map Ok l.initial.shares.items;
}

abbrev pub decreases-loop-share : goal.decreases-loop-share
decreases-loop-share g l = vec_len l.shares
