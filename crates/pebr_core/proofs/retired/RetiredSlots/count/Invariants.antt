use Rattle.std.proofs.Common.{◌≡◌, ◌≤◌, take, count_by}
use Rattle.pebr_core.specs.State.{is_retired}
use Rattle.pebr_core.proofs.retired.RetiredSlots.count.Given as goal

-- the count so far
abbrev pub invariant-loop-slot : goal.invariant-loop-slot
invariant-loop-slot l = (l.count ≤ l.slot-index) × (l.count ≡ count_by is_retired (take l.slot-index l.slot-items))
