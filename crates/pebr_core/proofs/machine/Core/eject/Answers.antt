use Rattle.std.proofs.Common.{◌∙◌, sym}
use Rattle.pebr_core.proofs.SeatSteps.{eject_done, found_where}
use Rattle.pebr_core.proofs.machine.Core.eject.Goals as goal

pub invariant_of-self : goal.invariant_of-self
invariant_of-self c =
    let which = found_where _ _ c.in_ok-found.found (sym c.epoch_found.ensures ∙ c.in_ok-found.was) in
    (eject_done c.self.inside c.args.self.now c.args.seat c.args.other c.in_ok-found.found
    c.index_mut-entry.result.now c.eject-won.new.self c.index_mut-entry-2.result.now c.pass.new.self
    c.self.invariant c.self.view_is which.0 which.1
    c.index_mut-entry.ensures.value c.eject-won.ensures.entry c.index_mut-entry-2.ensures.value c.pass.ensures).0

pub returns-clause-state : goal.returns-clause-state
returns-clause-state c =
    let which = found_where _ _ c.in_ok-found.found (sym c.epoch_found.ensures ∙ c.in_ok-found.was) in
    (eject_done c.self.inside c.args.self.now c.args.seat c.args.other c.in_ok-found.found
    c.index_mut-entry.result.now c.eject-won.new.self c.index_mut-entry-2.result.now c.pass.new.self
    c.self.invariant c.self.view_is which.0 which.1
    c.index_mut-entry.ensures.value c.eject-won.ensures.entry c.index_mut-entry-2.ensures.value c.pass.ensures).1
