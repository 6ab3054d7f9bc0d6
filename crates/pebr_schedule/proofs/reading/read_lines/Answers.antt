use Rattle.std.proofs.Common.{◌≡◌, ◌∙◌, ◌∷◌, ap, sym, Err, Some, option_copied}
use Rattle.pebr_schedule.specs.Numbers.{pieces_of}
use Rattle.pebr_schedule.specs.Rest.{pieces_after}
use Rattle.pebr_schedule.specs.Grammar.{with_shape, steps_of}
use Rattle.pebr_schedule.specs.declared.reading.ScheduleError.TheVariants.{BadLine}
use Rattle.pebr_schedule.proofs.Lines.{lines_first}
use Rattle.pebr_schedule.proofs.reading.read_lines.Goals as goal

pub returns-in-Err-read_steps-clause-bad : goal.returns-in-Err-read_steps-clause-bad
returns-in-Err-read_steps-clause-bad c = λ number e.
    let line = c.cut.result.0.now in
    let rest = c.in-Some.rest.now in
    let cuts = c.cut.ensures.pieces ∙ ap (λ o. line ∷ pieces_after 10 (option_copied o)) c.in-Some.is in
    let same : c.in-Err-read_steps.error ≡ BadLine number = cc in
    let steps = c.in-Err-read_steps.ensures.bad number (ap (λ x. Err x) same) in
    lines_first line rest (pieces_of 10 c.args.text.now) cuts
    ∙ (ap (λ s. with_shape s (steps_of 2 (pieces_of 10 rest)))
    (sym c.in-Ok-Some.ensures.shape ∙ c.in-Ok-Some.field-0-is)
    ∙ ap (with_shape (Some c.in-Ok-Some.shape)) steps)
