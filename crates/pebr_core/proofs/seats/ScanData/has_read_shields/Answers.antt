use Rattle.std.proofs.Common.{◌∙◌, [], sym, get_or, arith}
use Rattle.pebr_core.specs.State.{has}
use Rattle.pebr_core.proofs.Given.{each_passes, each_fails}
use Rattle.pebr_core.proofs.seats.ScanData.has_read_shields.Goals as goal

pub returns-then-not-get : goal.returns-then-not-get
returns-then-not-get c =
    sym (each_fails (λ place. has (get_or c.args.self.now.scanned c.args.other []) place) c.args.shields
    c.loop-place.place c.loop-place-test.true (sym c.get.ensures ∙ c.if-not-get.true))

pub returns : goal.returns
returns c =
    sym (each_passes (λ place. has (get_or c.args.self.now.scanned c.args.other []) place) c.args.shields
    (λ k lt. c.loop-place.invariant k (omega (arith, c.loop-place-test.false))))
