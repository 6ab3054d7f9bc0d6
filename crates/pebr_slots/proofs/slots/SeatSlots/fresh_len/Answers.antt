use Rattle.std.proofs.Common.{count_by, sym, ap, ◌∙◌}
use Rattle.pebr_slots.specs.Sets.{Sets}
use Rattle.pebr_slots.proofs.Keeping.{fresh_count}
use Rattle.pebr_slots.proofs.slots.SeatSlots.fresh_len.Goals as goal

pub returns : goal.returns
returns c =
    let inside = c.self.inside in
    c.len.ensures ∙ (inside.fresh.ok.0
    ∙ (sym (fresh_count inside.slots inside.room inside.fresh.items inside.untagged.items inside.tagged.items
    c.self.invariant.0) ∙ ap (λ (s : Sets). count_by (λ m. m) s.fresh) c.self.view_is))
