use Rattle.std.proofs.Common.{◌∙◌, sym}
use Rattle.pebr_core.proofs.SeatSteps.{look_done}
use Rattle.pebr_core.proofs.machine.Core.look.Goals as goal

pub invariant_of-self : goal.invariant_of-self
invariant_of-self c =
    (look_done c.self.inside c.args.self.now c.args.seat c.args.other c.index_mut-entry.result.now c.look.new.self
    c.status-status.result c.self.invariant c.self.view_is
    (sym c.can_look.ensures ∙ c.if-not-can_look.false) c.index_mut-entry.ensures.value c.status-status.ensures
    c.look.ensures.entry).0

pub returns-clause-state : goal.returns-clause-state
returns-clause-state c =
    (look_done c.self.inside c.args.self.now c.args.seat c.args.other c.index_mut-entry.result.now c.look.new.self
    c.status-status.result c.self.invariant c.self.view_is
    (sym c.can_look.ensures ∙ c.if-not-can_look.false) c.index_mut-entry.ensures.value c.status-status.ensures
    c.look.ensures.entry).1
