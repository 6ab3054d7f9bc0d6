use Rattle.pebr_schedule.specs.Printed.{seat_line}
use Rattle.pebr_schedule.proofs.Texts.{text_more}
use Rattle.pebr_schedule.proofs.printing.put_seats.Goals as goal

pub loop-seat-preserved : goal.loop-seat-preserved
loop-seat-preserved c =
    text_more (seat_line c.args.core.now) c.loop-seat.seat c.args.out.now.items c.loop-seat.out.items
    c.put_seat.new.out.items c.loop-seat.invariant c.in_ok-put_seat.ensures
