use Rattle.std.proofs.Common.{◌≡◌, ℕ, ◌&&◌, leb, ltb, length}
use Rattle.pebr_core.specs.State.{has, slot_count}
use Rattle.pebr_core.proofs.start.first_fresh.Given as goal

-- the slots so far are fresh
abbrev pub invariant-loop-slot : goal.invariant-loop-slot
invariant-loop-slot l = (length l.fresh ≡ slot_count l.shape)
    × ((k : ℕ) → has l.fresh k ≡ (leb l.first k && ltb k l.slot))
