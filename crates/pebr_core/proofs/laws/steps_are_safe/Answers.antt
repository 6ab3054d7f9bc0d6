use Rattle.pebr_core.proofs.Law.{step_sound}
use Rattle.pebr_core.proofs.SafeRun.{step_gives_no_used, step_keeps_used_words}
use Rattle.pebr_core.proofs.laws.steps_are_safe.Goals as goal

pub returns-clause-sound : goal.returns-clause-sound
returns-clause-sound c = step_sound

pub returns-clause-unused : goal.returns-clause-unused
returns-clause-unused c = step_gives_no_used

pub returns-clause-words : goal.returns-clause-words
returns-clause-words c = step_keeps_used_words
