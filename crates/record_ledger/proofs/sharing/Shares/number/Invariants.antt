-- No share so far ends behind the time.
use Rattle.std.proofs.Common.{ℕ, ◌<◌, ◌≤◌, get_or}
use Rattle.record_ledger.proofs.sharing.Shares.number.Given as goal

abbrev pub invariant-loop-number : goal.invariant-loop-number
invariant-loop-number l = record { over : (n : ℕ) → n < l.number → get_or l.self-inside.ends.items n 0 ≤ l.time }
