use Rattle.record_ledger.proofs.Made.{cuts_are_sessions, have_sessions}
use Rattle.record_ledger.proofs.Matched.{lawful_are_sessions}
use Rattle.record_ledger.proofs.Unique.{records_are_one}
use Rattle.record_ledger.proofs.laws.lawful_lists_are_sessions.Goals as goal

pub returns-clause-cuts : goal.returns-clause-cuts
returns-clause-cuts c = cuts_are_sessions

pub returns-clause-sessions : goal.returns-clause-sessions
returns-clause-sessions c = have_sessions

pub returns-clause-lawful : goal.returns-clause-lawful
returns-clause-lawful c = lawful_are_sessions

pub returns-clause-one : goal.returns-clause-one
returns-clause-one c = records_are_one

pub returns-clause-unique : goal.returns-clause-unique
returns-clause-unique c = λ limits packets sessions is uncut records others lawful lawful'.
    records_are_one limits packets sessions is records others
    (lawful_are_sessions limits packets sessions is uncut records lawful)
    (lawful_are_sessions limits packets sessions is uncut others lawful')
