use Rattle.std.proofs.Common.{◌∙◌, sym, arith}
use Rattle.std.proofs.lemmas.List.{get_or-map, length-map}
use Rattle.pebr_slots.specs.declared.tagged.TaggedSlot.{TaggedSlot}
use Rattle.pebr_slots.specs.Shown.{times, slots_of}
use Rattle.pebr_slots.proofs.Listing.{present, in_some}
use Rattle.pebr_slots.proofs.Finding.{nobody}
use Rattle.pebr_slots.proofs.tagged.has_slot.Goals as goal

pub returns-then-entry-slot : goal.returns-then-entry-slot
returns-then-entry-slot c =
    let tagged = c.args.tagged.now in
    let index = c.loop-entry.entry-index in
    let slot_of = (λ (entry : TaggedSlot). entry.slot) in
    sym (in_some (times c.args.slot (slots_of tagged))
    (present c.args.slot (slots_of tagged) index
    (let e = length-map tagged slot_of in omega (arith, e, c.loop-entry-test.true))
    (get_or-map slot_of tagged index nobody 0 c.loop-entry-test.true ∙ c.if-entry-slot.true)))
