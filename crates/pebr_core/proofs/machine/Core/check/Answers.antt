use Rattle.std.proofs.Common.{◌∙◌, sym}
use Rattle.pebr_core.proofs.EntrySteps.{check_done}
use Rattle.pebr_core.proofs.machine.Core.check.Goals as goal

pub invariant_of-self : goal.invariant_of-self
invariant_of-self c =
    (check_done c.self.inside c.args.self.now c.args.seat c.index_mut-entry.result.now c.check.new.self c.self.invariant
    c.self.view_is
    (sym c.is_engaged.ensures ∙ c.if-not-is_engaged.false) c.index_mut-entry.ensures.value c.check.ensures.entry).0

pub returns-clause-state : goal.returns-clause-state
returns-clause-state c =
    (check_done c.self.inside c.args.self.now c.args.seat c.index_mut-entry.result.now c.check.new.self c.self.invariant
    c.self.view_is
    (sym c.is_engaged.ensures ∙ c.if-not-is_engaged.false) c.index_mut-entry.ensures.value c.check.ensures.entry).1
