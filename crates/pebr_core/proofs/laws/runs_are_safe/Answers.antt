use Rattle.pebr_core.specs.State.{start_state}
use Rattle.pebr_core.proofs.StartState.{start_sound}
use Rattle.pebr_core.proofs.SafeRun.{safe_run}
use Rattle.pebr_core.proofs.laws.runs_are_safe.Goals as goal

pub returns-clause-start : goal.returns-clause-start
returns-clause-start c = λ shape steps. safe_run (start_state shape) steps (start_sound shape)

pub returns-clause-any : goal.returns-clause-any
returns-clause-any c = safe_run
