-- A set's step.
use Rattle.std.proofs.Common.{◌∙◌, sym, ap}
use Rattle.ipfix_reader.specs.Part.{behind}
use Rattle.ipfix_reader.specs.Cursors.{part_of}
use Rattle.ipfix_reader.proofs.SetSteps.{message_sets-bad, set-read, set-refused}
use Rattle.ipfix_reader.proofs.sets.read_set.Goals as goal

pub returns-then-is_bad_length-clause-fault : goal.returns-then-is_bad_length-clause-fault
returns-then-is_bad_length-clause-fault g c = λ before taken.
    message_sets-bad _ _ (part_of c.args.part) c.requires (sym c.if-is_bad_length.ensures)

pub returns-in-Ok-clause-ok : goal.returns-in-Ok-clause-ok
returns-in-Ok-clause-ok g c = λ before taken.
    let way = c.in-Ok.ensures.ok before taken in
    record {
      after = way.after;
      taken = way.taken;
      counted = way.counted;
      reads = set-read _ _ _ _ _ (part_of c.args.part) _ _ c.requires (sym c.if-is_bad_length.ensures)
          c.u16_at-2.ensures
          (c.from-size.ensures ∙ c.u16_at.ensures)
          (c.behind-content.ensures ∙ ap (behind 4) c.first_part.ensures) c.behind.ensures way.reads;
    }

pub returns-in-Err-clause-fault : goal.returns-in-Err-clause-fault
returns-in-Err-clause-fault g c = λ before taken.
    set-refused _ _ _ _ (part_of c.args.part) _ _ c.requires (sym c.if-is_bad_length.ensures) c.u16_at-2.ensures
    (c.from-size.ensures ∙ c.u16_at.ensures)
    (c.behind-content.ensures ∙ ap (behind 4) c.first_part.ensures) (c.in-Err.ensures.fault before taken)
