-- The stream was read, and the stream of its biflows went out, or a beginning of it.
use Rattle.std.proofs.Common.{◌*◌, ◌∙◌, ap, arith, length}
use Rattle.pair_program.proofs.BiRecords.{biflow-fits, length-bi_template_message}
use Rattle.pair_program.proofs.Written.{answer-of}
use Rattle.pair_program.proofs.running.pair_input.Goals as goal

pub write_messages-requires-clause-alone : goal.write_messages-requires-clause-alone
write_messages-requires-clause-alone g c = λ pair. biflow-fits c.args.settings.now.size pair (omega arith)

pub returns-in-Ok-write_messages : goal.returns-in-Ok-write_messages
returns-in-Ok-write_messages g c =
    let h = c.in-Ok-write_messages.ensures.written in
    record {
      bytes = c.in-Ok.stream.items;
      read = record { given = c.in-Ok.ensures.all.0; ended = c.in-Ok.ensures.all.1; within = c.in-Ok.ensures.within };
      written = h.0;
      answer = answer-of (1000 * c.args.settings.now.idle) c.args.settings.now.size c.in-Ok-pairs_of.paired.seconds
          c.as_slice.result.now c.in-Ok-first_message.first.items h.0 c.in-Ok.stream.items
          c.as_slice-pairs.result.now c.in-Ok-pairs_of.paired.pairs.items c.in-Ok-pairs_of.ensures.paired (omega arith)
          c.as_slice.ensures.value c.in-Ok-first_message.ensures
          c.as_slice-pairs.ensures.value h.2;
      taken = h.1;
    }

pub returns : goal.returns
returns g c =
    let h = c.in-Err.ensures.begun in
    record {
      bytes = c.in-Ok.stream.items;
      read = record { given = c.in-Ok.ensures.all.0; ended = c.in-Ok.ensures.all.1; within = c.in-Ok.ensures.within };
      written = h.0;
      answer = answer-of (1000 * c.args.settings.now.idle) c.args.settings.now.size c.in-Ok-pairs_of.paired.seconds
          c.as_slice.result.now c.in-Ok-first_message.first.items h.0 c.in-Ok.stream.items
          c.as_slice-pairs.result.now c.in-Ok-pairs_of.paired.pairs.items c.in-Ok-pairs_of.ensures.paired (omega arith)
          c.as_slice.ensures.value c.in-Ok-first_message.ensures
          c.as_slice-pairs.ensures.value h.3;
      begun = record { count = h.1; taken = h.2 };
      cause = c.in-Err.ensures.cause.failed;
    }

pub write_messages-requires-clause-short : goal.write_messages-requires-clause-short
write_messages-requires-clause-short g c =
    omega (
      arith,
      ap length (c.as_slice.ensures.value ∙ c.in-Ok-first_message.ensures),
      length-bi_template_message c.in-Ok-pairs_of.paired.seconds,
    )
