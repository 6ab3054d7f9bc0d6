use Rattle.std.proofs.Common.{◌∙◌, sym}
use Rattle.pebr_core.proofs.EntrySteps.{unshield_done}
use Rattle.pebr_core.proofs.machine.Core.unshield.Goals as goal

pub invariant_of-self : goal.invariant_of-self
invariant_of-self c =
    (unshield_done c.self.inside c.args.self.now c.args.seat c.args.place c.index_mut-entry.result.now
    c.put_shield.new.self c.self.invariant c.self.view_is
    (sym c.can_unshield.ensures ∙ c.if-not-can_unshield.false) c.index_mut-entry.ensures.value c.put_shield.ensures).0

pub returns-clause-state : goal.returns-clause-state
returns-clause-state c =
    (unshield_done c.self.inside c.args.self.now c.args.seat c.args.place c.index_mut-entry.result.now
    c.put_shield.new.self c.self.invariant c.self.view_is
    (sym c.can_unshield.ensures ∙ c.if-not-can_unshield.false) c.index_mut-entry.ensures.value c.put_shield.ensures).1
