-- What is kept stands in front.
use Rattle.std.proofs.Common.{◌≡◌, ◌≤◌, ◌-◌, length, drop, subst, sym}
use Rattle.capture_input.specs.Filling.{WindowState, window_in}
use Rattle.capture_input.proofs.Filled.{window-kept}
use Rattle.capture_input.proofs.window.Window.keep.Goals as goal

pub returns : goal.returns
returns c =
    let within = subst (λ (w : WindowState). c.args.from ≤ length w.bytes) (sym c.self.view_is) c.requires in
    subst (λ (w : WindowState). window_in c.copy_within.new.self.items (c.self.inside.end - c.args.from)
    ≡ record { bytes = drop c.args.from w.bytes; size = w.size }) c.self.view_is
    (window-kept c.self.inside.buffer.items c.copy_within.new.self.items c.args.from c.self.inside.end
    c.copy_within.ensures.items within c.self.invariant)
