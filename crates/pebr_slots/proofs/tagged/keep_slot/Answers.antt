use Rattle.std.proofs.Common.{◌∙◌, Bool, ap, arith, get_or, set}
use Rattle.std.proofs.lemmas.List.{get_or_default}
use Rattle.std.proofs.lemmas.List.Edits.{map_over_more}
use Rattle.pebr_slots.specs.declared.tagged.TaggedSlot.{TaggedSlot}
use Rattle.pebr_slots.specs.Shown.{kept_at}
use Rattle.pebr_slots.proofs.Finding.{nobody}
use Rattle.pebr_slots.proofs.tagged.keep_slot.Goals as goal

pub loop-entry-preserved : goal.loop-entry-preserved
loop-entry-preserved c =
    let tagged = c.loop-entry.tagged in
    let index = c.loop-entry.entry-index in
    let entry : TaggedSlot = get_or tagged index nobody in
    ap (λ (k : Bool). set tagged index (record entry { kept = k })) c.stays-entry.ensures
    ∙ map_over_more (kept_at c.args.slot) c.args.tagged.now tagged index entry c.loop-entry-test.true
    c.loop-entry.invariant
    (get_or_default tagged index nobody entry (omega (arith, c.loop-entry-test.true, c.loop-entry.auto.tagged)))
