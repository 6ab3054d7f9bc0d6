use Rattle.std.proofs.Common.{◌∙◌, sym}
use Rattle.pebr_core.proofs.SeatSteps.{note_done}
use Rattle.pebr_core.proofs.machine.Core.note.Goals as goal

pub invariant_of-self : goal.invariant_of-self
invariant_of-self c =
    (note_done c.self.inside c.args.self.now c.args.seat c.index_mut-entry.result.now c.note.new.self c.self.invariant
    c.self.view_is
    (sym c.is_out.ensures ∙ c.if-not-is_out.false) c.index_mut-entry.ensures.value c.note.ensures).0

pub returns-clause-state : goal.returns-clause-state
returns-clause-state c =
    (note_done c.self.inside c.args.self.now c.args.seat c.index_mut-entry.result.now c.note.new.self c.self.invariant
    c.self.view_is
    (sym c.is_out.ensures ∙ c.if-not-is_out.false) c.index_mut-entry.ensures.value c.note.ensures).1
