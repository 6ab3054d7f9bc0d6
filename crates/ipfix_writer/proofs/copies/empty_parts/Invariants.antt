-- So many parts, each with its runs.
use Rattle.std.proofs.Common.{◌≡◌, length, All}
use Rattle.ipfix_writer.specs.Copies.{IsWhole}
use Rattle.ipfix_writer.proofs.copies.empty_parts.Given as goal

abbrev pub invariant-loop-made : goal.invariant-loop-made
invariant-loop-made l = record {
  many : length l.parts.items ≡ l._made;
  whole : All IsWhole l.parts.items;
}
