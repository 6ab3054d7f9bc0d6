-- So many runs.
use Rattle.std.proofs.Common.{◌≡◌, length}
use Rattle.ipfix_writer.proofs.copies.empty_part.Given as goal

abbrev pub invariant-loop-made : goal.invariant-loop-made
invariant-loop-made l = record { many : length l.part.items ≡ l._made }
