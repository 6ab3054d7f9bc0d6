use Rattle.std.proofs.Common.{◌≡◌, ℕ, ◌<◌, true, ◌&&◌, ◌||◌, eqb, []}
use Rattle.pebr_core.specs.State.{has, has_scanned}
use Rattle.pebr_core.specs.Steps.{each_below}
use Rattle.pebr_core.specs.Shown.{scan_parts}
use Rattle.pebr_core.proofs.seats.ScanData.is_complete.Given as goal

-- the seats so far are done
abbrev pub invariant-loop-other : goal.invariant-loop-other
invariant-loop-other l = (k : ℕ) → k < l.other
    → ((eqb k l.seat) ||
    (has l.self.passed k && each_below l.shape.shields (λ place. has_scanned (scan_parts [] l.self) k place))) ≡ true
