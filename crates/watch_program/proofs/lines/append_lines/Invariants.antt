use Rattle.std.proofs.Common.{◌≡◌, ◌++◌, flat_map, drop}
use Rattle.watch_program.specs.Lines.{line_of}
use Rattle.watch_program.proofs.lines.append_lines.Given as goal

abbrev pub invariant-loop-answer : goal.invariant-loop-answer
invariant-loop-answer l =
    l.text.items ++ flat_map line_of (drop l.answer-index l.answers) ≡ l.initial.text.items
    ++ flat_map line_of l.answers
