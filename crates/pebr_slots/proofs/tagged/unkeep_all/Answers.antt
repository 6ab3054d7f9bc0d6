use Rattle.std.proofs.Common.{arith, get_or}
use Rattle.std.proofs.lemmas.List.{get_or_default}
use Rattle.std.proofs.lemmas.List.Edits.{map_over_more}
use Rattle.pebr_slots.specs.declared.tagged.TaggedSlot.{TaggedSlot}
use Rattle.pebr_slots.specs.Shown.{unkept_entry}
use Rattle.pebr_slots.proofs.Finding.{nobody}
use Rattle.pebr_slots.proofs.tagged.unkeep_all.Goals as goal

pub loop-entry-preserved : goal.loop-entry-preserved
loop-entry-preserved c =
    let tagged = c.loop-entry.tagged in
    let index = c.loop-entry.entry-index in
    let entry : TaggedSlot = get_or tagged index nobody in
    map_over_more unkept_entry c.args.tagged.now tagged index entry c.loop-entry-test.true c.loop-entry.invariant
    (get_or_default tagged index nobody entry (omega (arith, c.loop-entry-test.true, c.loop-entry.auto.tagged)))
