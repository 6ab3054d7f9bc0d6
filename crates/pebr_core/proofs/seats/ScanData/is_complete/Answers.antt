use Rattle.std.proofs.Common.{◌∙◌, ◌&&◌, ◌||◌, [], eqb, sym, arith}
use Rattle.pebr_core.specs.State.{has, has_scanned}
use Rattle.pebr_core.specs.Steps.{each_below}
use Rattle.pebr_core.specs.Shown.{scan_parts}
use Rattle.pebr_core.proofs.Given.{each_passes, each_fails}
use Rattle.pebr_core.proofs.seats.ScanData.is_complete.Goals as goal

pub returns-then-not-is_done_with : goal.returns-then-not-is_done_with
returns-then-not-is_done_with c =
    let scan = scan_parts [] c.args.self.now in
    sym (each_fails
    (λ j. (eqb j c.args.seat) ||
    (has scan.passed j && each_below c.args.shape.now.shields (λ place. has_scanned scan j place)))
    c.args.shape.now.seats c.loop-other.other c.loop-other-test.true
    (sym c.is_done_with.ensures ∙ c.if-not-is_done_with.true))

pub returns : goal.returns
returns c =
    let scan = scan_parts [] c.args.self.now in
    sym (each_passes
    (λ j. (eqb j c.args.seat) ||
    (has scan.passed j && each_below c.args.shape.now.shields (λ place. has_scanned scan j place)))
    c.args.shape.now.seats (λ k lt. c.loop-other.invariant k (omega (arith, c.loop-other-test.false))))
