use Rattle.std.proofs.Common.{sym, ap, ◌∙◌, eqb}
use Rattle.std.specs.List.{list_any}
use Rattle.pebr_core.specs.State.{has}
use Rattle.pebr_slots.specs.Sets.{Sets}
use Rattle.pebr_slots.proofs.Listing.{any_is_in}
use Rattle.pebr_slots.proofs.Keeping.{fresh_at}
use Rattle.pebr_slots.proofs.slots.SeatSlots.is_fresh.Goals as goal

pub returns : goal.returns
returns c =
    let inside = c.self.inside in
    c.contains.ensures.value
    ∙ (ap (list_any (λ y. eqb y c.args.slot)) c.deref.ensures.value ∙ (any_is_in c.args.slot inside.fresh.items
    ∙ (sym (fresh_at inside.slots inside.room inside.fresh.items inside.untagged.items inside.tagged.items
    c.self.invariant.0 c.args.slot) ∙ ap (λ (s : Sets). has s.fresh c.args.slot) c.self.view_is)))
