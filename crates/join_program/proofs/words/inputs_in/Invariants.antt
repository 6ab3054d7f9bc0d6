-- The count so far and the standard inputs among the files that are left make the count of all.
use Rattle.std.proofs.Common.{◌≡◌, ◌+◌, ◌≤◌, drop, filter, map, length}
use Rattle.std.specs.Prelude.{codes}
use Rattle.std.specs.Str.{bytes_eq}
use Rattle.std.specs.String.{string_bytes}
use Rattle.join_program.proofs.words.inputs_in.Given as goal

abbrev pub invariant-loop-name : goal.invariant-loop-name
invariant-loop-name l = record {
  few : l.count ≤ l.name-index;
  all : l.count + length (filter (λ name. bytes_eq name (codes "-")) (map string_bytes (drop l.name-index l.files)))
      ≡ length (filter (λ name. bytes_eq name (codes "-")) (map string_bytes l.files));
}
