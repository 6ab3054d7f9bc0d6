use Rattle.std.proofs.Common.{◌∙◌, ◌++◌, ap}
use Rattle.std.proofs.Common.{cond, codes, decimal, []}
use Rattle.pebr_core.specs.State.{seat_at}
use Rattle.pebr_schedule.specs.Printed.{fresh_item}
use Rattle.pebr_schedule.proofs.Texts.{text_more}
use Rattle.pebr_schedule.proofs.printing.put_fresh.Goals as goal

pub loop-slot-preserved : goal.loop-slot-preserved
loop-slot-preserved c =
    text_more (λ slot. fresh_item (seat_at c.args.core.now c.args.seat).fresh slot) c.loop-slot.slot
    c.args.out.now.items c.loop-slot.out.items c.put_fresh_item.new.out.items c.loop-slot.invariant
    (c.in_ok-put_fresh_item.ensures
    ∙ ap (λ b. c.loop-slot.out.items ++ cond b (codes " " ++ decimal c.loop-slot.slot) []) c.is_fresh.ensures)
