use Rattle.std.proofs.Common.{◌∙◌, ◌++◌, ap}
use Rattle.pebr_core.specs.State.{seat_at, shield_at}
use Rattle.pebr_schedule.specs.Printed.{shield_item}
use Rattle.pebr_schedule.proofs.Texts.{text_more}
use Rattle.pebr_schedule.proofs.printing.put_shields.Goals as goal

pub loop-place-preserved : goal.loop-place-preserved
loop-place-preserved c =
    text_more (λ place. shield_item (shield_at (seat_at c.args.core.now c.args.seat) place)) c.loop-place.place
    c.args.out.now.items c.loop-place.out.items c.put_shield.new.out.items c.loop-place.invariant
    (c.in_ok-put_shield.ensures ∙ ap (λ s. c.loop-place.out.items ++ shield_item s) c.shield.ensures)
