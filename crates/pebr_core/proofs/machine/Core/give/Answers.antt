use Rattle.std.proofs.Common.{◌∙◌, sym, refl}
use Rattle.pebr_core.proofs.EntrySteps.{give_done}
use Rattle.pebr_core.proofs.machine.Core.give.Goals as goal

pub invariant_of-self : goal.invariant_of-self
invariant_of-self c =
    (give_done c.self.inside c.args.self.now c.args.seat c.self.inside.epoch c.index_mut-entry.result.now
    c.give.new.self c.self.invariant c.self.view_is
    (sym c.can_give.ensures ∙ c.if-not-can_give.false) refl c.index_mut-entry.ensures.value c.give.ensures.entry).0

pub returns-clause-state : goal.returns-clause-state
returns-clause-state c =
    (give_done c.self.inside c.args.self.now c.args.seat c.self.inside.epoch c.index_mut-entry.result.now
    c.give.new.self c.self.invariant c.self.view_is
    (sym c.can_give.ensures ∙ c.if-not-can_give.false) refl c.index_mut-entry.ensures.value c.give.ensures.entry).1
