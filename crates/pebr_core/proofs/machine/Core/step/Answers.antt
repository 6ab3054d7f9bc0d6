use Rattle.std.proofs.Common.{◌≡◌, ◌∙◌, ap, subst, sym}
use Rattle.pebr_core.specs.Kept.{IsSound}
use Rattle.pebr_core.specs.Runs.{GivesNoUsed, KeepsUsedWords}
use Rattle.pebr_core.specs.Steps.{after}
use Rattle.pebr_core.proofs.Law.{step_sound, next_some, next_enabled}
use Rattle.pebr_core.proofs.SafeRun.{step_gives_no_used, step_keeps_used_words}
use Rattle.pebr_core.proofs.machine.Core.step.Goals as goal

-- the core after the step
made : (c : goal.In-Some) → c.make.new.self ≡ after c.args.self c.args.step
made c = c.make.ensures.state ∙ ap (λ n. n.1)
    (next_enabled c.args.self c.args.step
    (next_some c.args.self c.args.step c.in-Some.answer c.in-Some.ensures.answer).0)

pub returns-in-Some-clause-sound : goal.returns-in-Some-clause-sound
returns-in-Some-clause-sound c = (
  c.make.ensures.sound,
  subst IsSound (sym (made c))
      (step_sound c.args.self c.args.step c.make.ensures.sound
      (next_some c.args.self c.args.step c.in-Some.answer c.in-Some.ensures.answer).0),
)

pub returns-in-Some-clause-unused : goal.returns-in-Some-clause-unused
returns-in-Some-clause-unused c =
    subst (GivesNoUsed c.args.self) (sym (made c))
    (step_gives_no_used c.args.self c.args.step c.make.ensures.sound
    (next_some c.args.self c.args.step c.in-Some.answer c.in-Some.ensures.answer).0)

pub returns-in-Some-clause-words : goal.returns-in-Some-clause-words
returns-in-Some-clause-words c =
    subst (KeepsUsedWords c.args.self) (sym (made c))
    (step_keeps_used_words c.args.self c.args.step c.make.ensures.sound
    (next_some c.args.self c.args.step c.in-Some.answer c.in-Some.ensures.answer).0)
