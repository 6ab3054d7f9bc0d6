use Rattle.std.proofs.Common.{sym, ap, ◌∙◌, eqb, get_or}
use Rattle.std.specs.List.{list_any}
use Rattle.pebr_core.specs.declared.kinds.Retired.TheVariants as retire
use Rattle.pebr_core.specs.State.{is_retired}
use Rattle.pebr_slots.specs.Sets.{Sets}
use Rattle.pebr_slots.specs.Shown.{is_in, slots_of}
use Rattle.pebr_slots.proofs.Listing.{any_is_in}
use Rattle.pebr_slots.proofs.Keeping.{retired_at_all, retired_untagged, retired_tagged}
use Rattle.pebr_slots.proofs.slots.SeatSlots.is_retired.Goals as goal

pub returns-then-contains : goal.returns-then-contains
returns-then-contains c =
    let inside = c.self.inside in
    let is = c.contains.ensures.value
    ∙ (ap (list_any (λ y. eqb y c.args.slot)) c.deref.ensures.value ∙ any_is_in c.args.slot inside.untagged.items) in
    c.if-contains.true
    ∙ (sym (retired_untagged inside.untagged.items inside.tagged.items c.args.slot (sym is ∙ c.if-contains.true))
    ∙ (ap is_retired
    (sym (retired_at_all inside.slots inside.room inside.fresh.items inside.untagged.items inside.tagged.items
    c.self.invariant.0 c.args.slot)) ∙ ap (λ (s : Sets). is_retired (get_or s.retired c.args.slot retire.No))
    c.self.view_is))

pub returns-else-contains : goal.returns-else-contains
returns-else-contains c =
    let inside = c.self.inside in
    let is = c.contains.ensures.value
    ∙ (ap (list_any (λ y. eqb y c.args.slot)) c.deref.ensures.value ∙ any_is_in c.args.slot inside.untagged.items) in
    c.has_slot.ensures ∙ (ap (λ l. is_in c.args.slot (slots_of l)) c.deref-else-contains.ensures.value
    ∙ (sym (retired_tagged inside.untagged.items inside.tagged.items c.args.slot (sym is ∙ c.if-contains.false))
    ∙ (ap is_retired
    (sym (retired_at_all inside.slots inside.room inside.fresh.items inside.untagged.items inside.tagged.items
    c.self.invariant.0 c.args.slot)) ∙ ap (λ (s : Sets). is_retired (get_or s.retired c.args.slot retire.No))
    c.self.view_is)))
