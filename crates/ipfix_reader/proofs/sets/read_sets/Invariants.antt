-- What is left gives what all of the sets give, and each set makes it shorter.
use Rattle.std.proofs.Common.{◌+◌, ◌≤◌, List, length}
use Rattle.ipfix_model.specs.declared.values.DataRecord.{DataRecord}
use Rattle.ipfix_reader.specs.Sets.{message_sets}
use Rattle.ipfix_reader.specs.Cursors.{part_of}
use Rattle.ipfix_reader.specs.Taking.{IsTaken, contents_of}
use Rattle.ipfix_reader.proofs.sets.read_sets.Given as goal

abbrev pub invariant-sets : goal.invariant-sets
invariant-sets g l = record {
  left : (before : List DataRecord) → g.T.RecordTaker.has_taken l.fn.taker before
      → IsTaken (g.T.RecordTaker.has_taken l.taker) before l.count
      (message_sets l.domain (contents_of l.fn.table before) (part_of l.fn.sets))
      (λ after. message_sets l.domain (contents_of l.table after) (part_of l.rest));
  counted : l.count + length l.rest.bytes.now ≤ length l.fn.sets.bytes.now;
}

abbrev pub decreases-sets : goal.decreases-sets
decreases-sets g l = length l.rest.bytes.now
