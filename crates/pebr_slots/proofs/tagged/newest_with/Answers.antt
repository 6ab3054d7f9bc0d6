use Rattle.std.proofs.Common.{◌&&◌, ◌∙◌, ap, sym, length}
use Rattle.pebr_slots.specs.Sets.{is_above}
use Rattle.pebr_slots.proofs.Tags.{all_same}
use Rattle.pebr_slots.proofs.Apart.{not_zero}
use Rattle.pebr_slots.proofs.tagged.newest_with.Goals as goal

pub returns-else-is_empty : goal.returns-else-is_empty
returns-else-is_empty c = λ epoch. c.newer_of.ensures epoch
    ∙ ap (λ b. is_above c.args.newest epoch && b)
    (sym (all_same c.args.tag epoch c.args.slots.now
    (not_zero (length c.args.slots.now) (sym c.is_empty.ensures ∙ c.if-is_empty.false))))
