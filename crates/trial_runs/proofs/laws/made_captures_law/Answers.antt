use Rattle.trial_runs.proofs.Uncut.{nothing-cuts, tests-are-one}
use Rattle.trial_runs.proofs.OneText.{metered-one, tests-write-one}
use Rattle.trial_runs.proofs.laws.made_captures_law.Goals as goal

pub returns-clause-uncut : goal.returns-clause-uncut
returns-clause-uncut c = nothing-cuts c.keys_have_fields.ensures.once

pub returns-clause-one : goal.returns-clause-one
returns-clause-one c = tests-are-one c.keys_have_fields.ensures.once

pub returns-clause-metered : goal.returns-clause-metered
returns-clause-metered c = λ idle active size capture written reported written' reported' metered others one other.
    metered-one c.lawful_lists_are_sessions.ensures.one idle active size capture written reported written'
    reported' metered
    others one other

pub returns-clause-written : goal.returns-clause-written
returns-clause-written c =
    tests-write-one c.keys_have_fields.ensures.once c.lawful_lists_are_sessions.ensures.one
    c.lawful_lists_are_sessions.ensures.sessions
