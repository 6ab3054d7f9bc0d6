use Rattle.std.proofs.Common.{◌≡◌, ◌++◌, take, flat_map}
use Rattle.pebr_schedule.specs.Printed.{answer_text, line}
use Rattle.pebr_schedule.proofs.printing.put_answers.Given as goal

-- the lines so far
abbrev pub invariant-loop-answer : goal.invariant-loop-answer
invariant-loop-answer l = l.out.items ≡ l.initial.out.items
    ++ flat_map (λ answer. line (answer_text answer)) (take l.answer-index l.answers)
