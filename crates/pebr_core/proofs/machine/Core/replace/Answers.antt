use Rattle.std.proofs.Common.{◌∙◌, sym}
use Rattle.pebr_core.proofs.EntrySteps.{replace_done}
use Rattle.pebr_core.proofs.machine.Core.replace.Goals as goal

pub invariant_of-self : goal.invariant_of-self
invariant_of-self c =
    (replace_done c.self.inside c.args.self.now c.args.seat c.args.root c.args.old c.args.new
    c.index_mut-entry.result.now c.replace.new.self c.set.new.self c.self.invariant c.self.view_is
    (sym c.can_replace.ensures ∙ c.if-not-can_replace.false)
    (sym c.root.ensures ∙ c.if-root-old.false) c.index_mut-entry.ensures.value c.replace.ensures c.set.ensures).0

pub returns-clause-state : goal.returns-clause-state
returns-clause-state c =
    (replace_done c.self.inside c.args.self.now c.args.seat c.args.root c.args.old c.args.new
    c.index_mut-entry.result.now c.replace.new.self c.set.new.self c.self.invariant c.self.view_is
    (sym c.can_replace.ensures ∙ c.if-not-can_replace.false)
    (sym c.root.ensures ∙ c.if-root-old.false) c.index_mut-entry.ensures.value c.replace.ensures c.set.ensures).1
