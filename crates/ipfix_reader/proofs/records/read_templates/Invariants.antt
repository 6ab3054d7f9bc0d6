-- What is left gives what all of the records give, and each record makes it shorter.
use Rattle.std.proofs.Common.{◌≡◌, length}
use Rattle.ipfix_reader.specs.Records.{template_records}
use Rattle.ipfix_reader.specs.Cursors.{part_of}
use Rattle.ipfix_reader.proofs.records.read_templates.Given as goal

abbrev pub invariant-records : goal.invariant-records
invariant-records l =
    template_records l.options l.domain l.fn.table (part_of l.fn.set)
    ≡ template_records l.options l.domain l.table (part_of l.rest)

abbrev pub decreases-records : goal.decreases-records
decreases-records l = length l.rest.bytes.now
