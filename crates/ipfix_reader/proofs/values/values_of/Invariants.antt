-- What is left gives what all of the fields give.
use Rattle.std.proofs.Common.{◌≡◌, [], drop}
use Rattle.ipfix_reader.specs.Values.{values_of}
use Rattle.ipfix_reader.specs.Cursors.{part_of}
use Rattle.ipfix_reader.proofs.values.values_of.Given as goal

abbrev pub invariant-loop-field : goal.invariant-loop-field
invariant-loop-field l =
    values_of l.beyond (drop l.field-index l.fields) l.values.items (part_of l.rest)
    ≡ values_of l.beyond l.fields [] (part_of l.fn.part)
