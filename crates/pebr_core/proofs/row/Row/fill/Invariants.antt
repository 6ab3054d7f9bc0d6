use Rattle.std.proofs.Common.{◌≡◌, ℕ, ◌<◌, get_or, length}
use Rattle.pebr_core.proofs.row.Row.fill.Given as goal

-- the entries so far are the value, and none is added
abbrev pub invariant-loop-entry : goal.invariant-loop-entry
invariant-loop-entry g l = (length l.entry-items ≡ length l.initial.entry-items)
    × ((k : ℕ) → k < l.entry-index → get_or l.entry-items k l.value ≡ l.value)
