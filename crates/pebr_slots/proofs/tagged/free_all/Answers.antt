use Rattle.std.proofs.Common.{ap, length, arith, take}
use Rattle.std.specs.List.{filter}
use Rattle.std.proofs.lemmas.List.{length-append}
use Rattle.pebr_slots.specs.Shown.{slots_of, is_given}
use Rattle.pebr_slots.proofs.Finding.{given_few}
use Rattle.pebr_slots.proofs.tagged.free_all.Goals as goal

pub push_reserved-requires : goal.push_reserved-requires
push_reserved-requires c =
    let index = c.loop-entry.entry-index in
    let a = ap length c.loop-entry.invariant.slots in
    let b = length-append c.args.fresh.now.items (slots_of (filter is_given (take index c.args.tagged.now))) in
    let d = given_few c.args.tagged.now index in
    let ok = c.loop-entry.fresh.ok.0 in
    omega (arith, a, b, d, ok, c.requires.room, c.loop-entry.invariant.room, c.loop-entry-test.true)
