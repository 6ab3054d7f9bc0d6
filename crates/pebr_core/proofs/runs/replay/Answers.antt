use Rattle.std.proofs.Common.{◌∙◌, ◌+◌, [], ◌∷◌, ◌++◌, get_or, refl, ap, subst, sym}
use Rattle.pebr_core.specs.declared.kinds.Step.TheVariants as step
use Rattle.pebr_core.specs.Steps.{after}
use Rattle.pebr_core.specs.Kept.{IsSound}
use Rattle.pebr_core.proofs.Law.{next_some, next_enabled}
use Rattle.pebr_core.proofs.SafeRun.{IsRunFrom, run_more, run_ended, safe_run}
use Rattle.pebr_core.proofs.runs.replay.Goals as goal

pub loop-place-preserved : goal.loop-place-preserved
loop-place-preserved c =
    let core = c.loop-place.core in
    let s = get_or c.args.steps.now c.loop-place.place (step.Note 0) in
    let told = next_some core s c.in-Some.answer c.in-Some.ensures.answer in
    let more = run_more c.args.core c.args.steps.now c.loop-place.place core c.loop-place.answers.items
    c.loop-place.invariant s (step.Note 0) c.loop-place-test.true refl told.0 in
    subst (λ z. IsRunFrom c.args.core c.args.steps.now (c.loop-place.place + 1) z c.push_answer.new.answers.items)
    (sym (c.make.ensures.state ∙ ap (λ n. n.1) (next_enabled core s told.0)))
    (subst (λ l. IsRunFrom c.args.core c.args.steps.now (c.loop-place.place + 1) (after core s) l)
    (sym (c.in_ok-push_answer.ensures ∙ ap (λ a. c.loop-place.answers.items ++ a ∷ []) told.1)) more)

pub returns-clause-safe : goal.returns-clause-safe
returns-clause-safe c = λ _. safe_run c.args.core c.args.steps.now (subst IsSound c.core.view_is c.core.invariant.sound)
    (run_ended c.args.core c.args.steps.now c.loop-place.place c.loop-place.core c.loop-place.answers.items
    c.loop-place.invariant c.loop-place-test.false).2
