use Rattle.std.proofs.Common.{◌∙◌, sym}
use Rattle.pebr_core.proofs.EntrySteps.{load_done}
use Rattle.pebr_core.proofs.machine.Core.load.Goals as goal

pub invariant_of-self : goal.invariant_of-self
invariant_of-self c =
    (load_done c.self.inside c.args.self.now c.args.seat c.args.root c.root-slot.result c.index_mut-entry.result.now
    c.load.new.self c.self.invariant c.self.view_is
    (sym c.can_load.ensures ∙ c.if-not-can_load.false) c.root-slot.ensures c.index_mut-entry.ensures.value
    c.load.ensures).0

pub returns-clause-state : goal.returns-clause-state
returns-clause-state c =
    (load_done c.self.inside c.args.self.now c.args.seat c.args.root c.root-slot.result c.index_mut-entry.result.now
    c.load.new.self c.self.invariant c.self.view_is
    (sym c.can_load.ensures ∙ c.if-not-can_load.false) c.root-slot.ensures c.index_mut-entry.ensures.value
    c.load.ensures).1
