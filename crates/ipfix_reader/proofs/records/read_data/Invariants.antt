-- What is left gives what all of the records give, and each record makes it shorter.
use Rattle.std.proofs.Common.{◌+◌, ◌≤◌, List, length}
use Rattle.ipfix_model.specs.declared.values.DataRecord.{DataRecord}
use Rattle.ipfix_reader.specs.Records.{data_records}
use Rattle.ipfix_reader.specs.Cursors.{part_of}
use Rattle.ipfix_reader.specs.Taking.{IsTaken}
use Rattle.ipfix_reader.proofs.records.read_data.Given as goal

abbrev pub invariant-records : goal.invariant-records
invariant-records g l = record {
  left : (before : List DataRecord) → g.T.RecordTaker.has_taken l.fn.taker before
      → IsTaken (g.T.RecordTaker.has_taken l.taker) before l.count
      (data_records l.domain l.number l.known.template.fields before (part_of l.fn.set))
      (λ after. data_records l.domain l.number l.known.template.fields after (part_of l.rest));
  counted : l.count + length l.rest.bytes.now ≤ length l.fn.set.bytes.now;
}

abbrev pub decreases-records : goal.decreases-records
decreases-records g l = length l.rest.bytes.now
