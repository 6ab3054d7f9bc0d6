-- A message's step.
use Rattle.std.proofs.Common.{◌∙◌, sym, ap}
use Rattle.ipfix_reader.specs.Part.{behind}
use Rattle.ipfix_reader.specs.Cursors.{part_of}
use Rattle.ipfix_reader.specs.Taking.{contents_of, progress_of}
use Rattle.ipfix_reader.proofs.MessageSteps.{stream_messages-bad, message-read, message-refused, number-counted}
use Rattle.ipfix_reader.proofs.messages.read_message.Goals as goal

pub returns-in-Err-clause-fault : goal.returns-in-Err-clause-fault
returns-in-Err-clause-fault g c = λ before taken.
    stream_messages-bad _ (part_of c.args.part) _ c.requires (sym c.in-Err.ensures.value)

pub returns-in-Err-read_sets-clause-fault : goal.returns-in-Err-read_sets-clause-fault
returns-in-Err-read_sets-clause-fault g c = λ before taken.
    message-refused (progress_of c.args.table.now before c.args.sequences.now)
    (part_of c.args.part) _ _ _ _ c.requires (sym c.in-Ok.ensures.value)
    c.u32_at-domain.ensures (c.behind-sets.ensures ∙ ap (behind 16) c.first_part.ensures)
    (c.in-Err-read_sets.ensures.fault before taken)

pub returns-in-Ok-insert-clause-ok : goal.returns-in-Ok-insert-clause-ok
returns-in-Ok-insert-clause-ok g c = λ before taken.
    let way = c.in-Ok-read_sets.ensures.ok before taken in (
      way.after,
      way.taken,
      message-read (progress_of c.args.table.now before c.args.sequences.now)
          (contents_of c.read_sets.new.table way.after)
          (part_of c.args.part) _ _ _ _ _ _ c.requires (sym c.in-Ok.ensures.value)
          c.u32_at-domain.ensures (c.behind-sets.ensures ∙ ap (behind 16) c.first_part.ensures) way.reads
          (number-counted _ _ _ _ _ _ c.next_number-number.ensures c.u32_at.ensures way.counted)
          c.in-Ok-insert.ensures c.behind.ensures,
    )
