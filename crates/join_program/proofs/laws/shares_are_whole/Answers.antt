use Rattle.join_program.proofs.AllShares.{shares_whole, shares_joined}
use Rattle.join_program.proofs.laws.shares_are_whole.Goals as goal

pub returns-clause-whole : goal.returns-clause-whole
returns-clause-whole c = shares_whole c.lawful_lists_go_together.ensures.together
    c.lawful_lists_go_together.ensures.own_clock c.lawful_lists_are_sessions.ensures.lawful

pub returns-clause-joined : goal.returns-clause-joined
returns-clause-joined c = shares_joined
