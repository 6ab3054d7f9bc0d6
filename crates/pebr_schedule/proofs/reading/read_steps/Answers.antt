use Rattle.std.proofs.Common.{◌≡◌, ◌∙◌, ◌+◌, ◌∷◌, ap, sym, Err, arith, option_copied}
use Rattle.pebr_schedule.specs.Numbers.{pieces_of}
use Rattle.pebr_schedule.specs.Rest.{pieces_after}
use Rattle.pebr_schedule.specs.Grammar.{steps_of}
use Rattle.pebr_schedule.proofs.Lines.{behind, lines_more, lines_bad}
use Rattle.pebr_schedule.proofs.reading.read_steps.Goals as goal

pub returns-in-Ok-None-clause-bad : goal.returns-in-Ok-None-clause-bad
returns-in-Ok-None-clause-bad c = λ number e.
    let line = c.cut.result.0.now in
    let cuts = c.cut.ensures.pieces ∙ ap (λ o. line ∷ pieces_after 10 (option_copied o)) c.in-Some.is in
    let bad = lines_bad c.loop-after.number line c.in-Some.after.now (pieces_of 10 c.loop-after.rest.now) cuts
    (sym c.in-Ok-None.ensures ∙ c.in-Ok-None.field-0-is) in
    let same : c.loop-after.number ≡ number = cc in
    sym c.loop-after.invariant.0 ∙ (ap (behind c.loop-after.steps.items) bad ∙ ap (λ n. Err n) same)

pub loop-after-preserved : goal.loop-after-preserved
loop-after-preserved c =
    let line = c.cut.result.0.now in
    let rest = c.in-Some.after.now in
    let cuts = c.cut.ensures.pieces ∙ ap (λ o. line ∷ pieces_after 10 (option_copied o)) c.in-Some.is in
    let more = lines_more c.loop-after.steps.items c.loop-after.number line rest
    (pieces_of 10 c.loop-after.rest.now) c.in-Ok-Some.step cuts (sym c.in-Ok-Some.ensures ∙ c.in-Ok-Some.field-0-is) in
    let shorter = rw c.in-Some.is at c.cut.ensures.shorter in (
      ap (λ l. behind l (steps_of (c.loop-after.number + 1) (pieces_of 10 rest))) c.in-Ok.ensures
          ∙ (sym more ∙ c.loop-after.invariant.0),
      omega (arith, shorter, c.loop-after.invariant.1),
    )
