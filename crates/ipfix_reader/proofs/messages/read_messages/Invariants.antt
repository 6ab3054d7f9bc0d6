-- What is left gives what all of the messages give, and each message makes it shorter.
use Rattle.std.proofs.Common.{◌≡◌, List, length}
use Rattle.ipfix_model.specs.declared.values.DataRecord.{DataRecord}
use Rattle.ipfix_reader.specs.Messages.{stream_messages}
use Rattle.ipfix_reader.specs.Cursors.{part_of}
use Rattle.ipfix_reader.specs.Taking.{progress_of}
use Rattle.ipfix_reader.proofs.messages.read_messages.Given as goal

abbrev pub invariant-messages : goal.invariant-messages
invariant-messages g l =
    (before : List DataRecord) → g.T.RecordTaker.has_taken l.fn.taker before
    → (after : List DataRecord) × g.T.RecordTaker.has_taken l.taker after
    × (stream_messages (progress_of l.fn.table before l.fn.sequences) (part_of l.fn.stream)
    ≡ stream_messages (progress_of l.table after l.sequences) (part_of l.rest))

abbrev pub decreases-messages : goal.decreases-messages
decreases-messages g l = length l.rest.bytes.now
