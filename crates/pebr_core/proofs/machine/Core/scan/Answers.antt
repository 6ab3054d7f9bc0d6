use Rattle.std.proofs.Common.{◌∙◌, sym, ap}
use Rattle.pebr_core.specs.State.{slot_under}
use Rattle.pebr_core.proofs.EntrySteps.{scan_done}
use Rattle.pebr_core.proofs.machine.Core.scan.Goals as goal

pub invariant_of-self : goal.invariant_of-self
invariant_of-self c =
    (scan_done c.self.inside c.args.self.now c.args.seat c.args.other c.args.place c.slot_under-slot.result
    c.index_mut-entry.result.now c.scan.new.self c.self.invariant c.self.view_is
    (sym c.can_scan.ensures ∙ c.if-not-can_scan.false)
    (c.slot_under-slot.ensures ∙ ap slot_under c.shield.ensures) c.index_mut-entry.ensures.value c.scan.ensures).0

pub returns-clause-state : goal.returns-clause-state
returns-clause-state c =
    (scan_done c.self.inside c.args.self.now c.args.seat c.args.other c.args.place c.slot_under-slot.result
    c.index_mut-entry.result.now c.scan.new.self c.self.invariant c.self.view_is
    (sym c.can_scan.ensures ∙ c.if-not-can_scan.false)
    (c.slot_under-slot.ensures ∙ ap slot_under c.shield.ensures) c.index_mut-entry.ensures.value c.scan.ensures).1
