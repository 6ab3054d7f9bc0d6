use Rattle.std.proofs.Common.{◌≡◌, ℕ, ◌<◌, ◌≤◌, get_or, length}
use Rattle.pebr_core.specs.declared.kinds.ShieldAt.TheVariants as shield
use Rattle.pebr_core.specs.Steps.{validated_shield}
use Rattle.pebr_core.proofs.seats.validate.Given as goal

-- the shields so far are done, the others as they were
abbrev pub invariant-loop-place : goal.invariant-loop-place
invariant-loop-place l =
    (length l.shields ≡ length l.initial.shields)
    × ((k : ℕ) → k < l.place → get_or l.shields k shield.Down
    ≡ validated_shield l.seen (get_or l.initial.shields k shield.Down))
    × ((k : ℕ) → l.place ≤ k → get_or l.shields k shield.Down ≡ get_or l.initial.shields k shield.Down)
