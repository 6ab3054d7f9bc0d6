-- Message by message, to the end of the stream.
use Rattle.std.proofs.Common.{◌∙◌, refl, arith}
use Rattle.ipfix_reader.specs.Cursors.{part_of}
use Rattle.ipfix_reader.proofs.Items.{fault_of-same}
use Rattle.ipfix_reader.proofs.MessageSteps.{stream_messages-end}
use Rattle.ipfix_reader.proofs.messages.read_messages.Goals as goal

pub messages-init : goal.messages-init
messages-init g c = λ before taken. (before, taken, refl)

pub messages-preserved : goal.messages-preserved
messages-preserved g c = λ before taken.
    let way = c.messages.invariant before taken in
    let next = c.in-Ok.ensures.ok way.0 way.1 in
    (next.0, next.1, way.2 ∙ next.2)

pub returns-in-Err-clause-fault : goal.returns-in-Err-clause-fault
returns-in-Err-clause-fault g c = λ before taken.
    let way = c.messages.invariant before taken in
    fault_of-same _ _ _ way.2 (c.in-Err.ensures.fault way.0 way.1)

pub returns-clause-ok : goal.returns-clause-ok
returns-clause-ok g c = λ before taken.
    let way = c.messages.invariant before taken in
    (way.0, way.1, way.2 ∙ stream_messages-end _ (part_of c.messages.rest) (omega arith))
