use Rattle.std.proofs.Common.{ap, Err, arith}
use Rattle.meter_program.proofs.Places.{refused-within}
use Rattle.meter_program.proofs.schedule.replay_of.Goals as goal

pub overflow_add-result : goal.overflow_add-result
overflow_add-result c =
    let place = c.in-Err-NotEnabled.place in
    let within = refused-within c.in_ok-core.core c.as_slice.result.now place
    (c.in-Err-NotEnabled.ensures.refused place (ap Err c.in-Err-NotEnabled.field-0-is)) in
    let small = c.as_slice.ensures.len in
    let is = c.in-Err-NotEnabled.place-is in
    omega (arith, within, small, is)
