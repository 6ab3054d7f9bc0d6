use Rattle.std.proofs.Common.{sym, ap, ◌∙◌, arith}
use Rattle.pebr_slots.specs.Sets.{Sets}
use Rattle.pebr_slots.proofs.Tags.{above, above_table}
use Rattle.pebr_slots.proofs.slots.SeatSlots.newest_tag.Goals as goal

pub returns : goal.returns
returns c = λ epoch.
    let inside = c.self.inside in
    ap (λ (s : Sets). above s.retired epoch) (sym c.self.view_is)
    ∙ (above_table epoch inside.slots inside.untagged.items inside.tagged.items
    (λ slot. let h = c.self.invariant.0.once slot in omega (arith, h)) ∙ c.self.invariant.2 epoch)
