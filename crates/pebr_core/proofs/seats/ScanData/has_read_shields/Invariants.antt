use Rattle.std.proofs.Common.{◌≡◌, ℕ, ◌<◌, true, [], get_or}
use Rattle.pebr_core.specs.State.{has}
use Rattle.pebr_core.proofs.seats.ScanData.has_read_shields.Given as goal

-- the shields so far were read
abbrev pub invariant-loop-place : goal.invariant-loop-place
invariant-loop-place l = (k : ℕ) → k < l.place → has (get_or l.self.scanned l.other []) k ≡ true
