use Rattle.std.proofs.Common.{arith}
use Rattle.pebr_slots.proofs.Listing.{must_go_on}
use Rattle.pebr_slots.proofs.fresh.place_of.Goals as goal

pub overflow_sub-place-in-loop-place : goal.overflow_sub-place-in-loop-place
overflow_sub-place-in-loop-place c = must_go_on c.args.fresh.now c.args.slot c.loop-place.place c.requires
    c.loop-place.invariant.past c.loop-place-test.true

pub loop-place-smaller : goal.loop-place-smaller
loop-place-smaller c = let low = must_go_on c.args.fresh.now c.args.slot c.loop-place.place c.requires
    c.loop-place.invariant.past c.loop-place-test.true in omega (arith, low)
