use Rattle.std.proofs.Common.{◌∙◌, sym}
use Rattle.pebr_core.proofs.SeatSteps.{leave_done}
use Rattle.pebr_core.proofs.machine.Core.leave.Goals as goal

pub invariant_of-self : goal.invariant_of-self
invariant_of-self c =
    (leave_done c.self.inside c.args.self.now c.args.seat c.index_mut-entry.result.now c.leave.new.self c.self.invariant
    c.self.view_is
    (sym c.is_engaged.ensures ∙ c.if-not-is_engaged.false) c.index_mut-entry.ensures.value c.leave.ensures).0

pub returns-clause-state : goal.returns-clause-state
returns-clause-state c =
    (leave_done c.self.inside c.args.self.now c.args.seat c.index_mut-entry.result.now c.leave.new.self c.self.invariant
    c.self.view_is
    (sym c.is_engaged.ensures ∙ c.if-not-is_engaged.false) c.index_mut-entry.ensures.value c.leave.ensures).1
