use Rattle.std.proofs.Common.{arith}
use Rattle.trial_layers.proofs.tests.batches.batches_go_through_in_order.Goals as goal

pub offer-requires-2-clause-behind : goal.offer-requires-2-clause-behind
offer-requires-2-clause-behind g c =
    let one = c.in_ok-batch.ensures.number in
    let next = c.in_ok-batch-2.ensures.number in
    c.offer.ensures.behind c.in_ok-batch-2.field-0 (omega (arith, one.0, next.0), omega (arith, one.1, one.2, next.1))

pub offer-requires-3-clause-behind : goal.offer-requires-3-clause-behind
offer-requires-3-clause-behind g c =
    let one = c.in_ok-batch-2.ensures.number in
    let next = c.in_ok-batch-3.ensures.number in
    c.offer-2.ensures.behind c.in_ok-batch-3.field-0 (omega (arith, one.0, next.0), omega (arith, one.1, one.2, next.1))

pub offer-requires-4-clause-behind : goal.offer-requires-4-clause-behind
offer-requires-4-clause-behind g c =
    let one = c.in_ok-batch-3.ensures.number in
    let next = c.in_ok-batch-4.ensures.number in
    c.offer-3.ensures.behind c.in_ok-batch-4.field-0 (omega (arith, one.0, next.0), omega (arith, one.1, one.2, next.1))
