use Rattle.std.proofs.Common.{◌+◌, ◌++◌, ◌∷◌, [], length, ap, ◌∙◌, arith}
use Rattle.std.proofs.lemmas.List.FromFn.{length-range_with_len}
use Rattle.pebr_slots.proofs.Listing.{range_more}
use Rattle.pebr_slots.proofs.fresh.falling_from.Goals as goal

pub push_reserved-requires : goal.push_reserved-requires
push_reserved-requires c =
    let is = ap length c.loop-place.invariant.slots in
    let long = length-range_with_len c.args.first c.loop-place.place in
    omega (arith, is, long, c.loop-place.fresh.ok.0)

pub loop-place-preserved : goal.loop-place-preserved
loop-place-preserved c = record {
  low = omega (arith, c.loop-place-test.true);
  slots = c.push_reserved.ensures.items
      ∙ (ap (λ l. l ++ (c.args.first + c.loop-place.place) ∷ []) c.loop-place.invariant.slots
      ∙ range_more c.args.first c.loop-place.place);
  room = omega (arith, c.loop-place.invariant.room, c.push_reserved.ensures.capacity);
}
