-- What is left gives what all of the specifiers give.
use Rattle.std.proofs.Common.{◌≡◌, ◌-◌, [], length}
use Rattle.ipfix_reader.specs.Specifiers.{fields_of}
use Rattle.ipfix_reader.specs.Cursors.{part_of}
use Rattle.ipfix_reader.proofs.specifiers.fields_of.Given as goal

abbrev pub invariant-loop-turn : goal.invariant-loop-turn
invariant-loop-turn l = record {
  counted : length l.fields.items ≡ l._turn;
  left : fields_of l.beyond (l.count - l._turn) l.fields.items (part_of l.rest)
      ≡ fields_of l.beyond l.count [] (part_of l.fn.part);
}
