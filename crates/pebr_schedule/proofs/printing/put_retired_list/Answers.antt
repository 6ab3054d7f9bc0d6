use Rattle.std.proofs.Common.{◌∙◌, ◌++◌, ap}
use Rattle.pebr_core.specs.State.{seat_at, retired_at}
use Rattle.pebr_schedule.specs.Printed.{retired_item}
use Rattle.pebr_schedule.proofs.Texts.{text_more}
use Rattle.pebr_schedule.proofs.printing.put_retired_list.Goals as goal

pub loop-slot-preserved : goal.loop-slot-preserved
loop-slot-preserved c =
    text_more (λ slot. retired_item slot (retired_at (seat_at c.args.core.now c.args.seat) slot)) c.loop-slot.slot
    c.args.out.now.items c.loop-slot.out.items c.put_retired.new.out.items c.loop-slot.invariant
    (c.in_ok-put_retired.ensures ∙ ap (λ r. c.loop-slot.out.items ++ retired_item c.loop-slot.slot r) c.retired.ensures)
