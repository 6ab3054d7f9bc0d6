-- So many dealings.
use Rattle.std.proofs.Common.{◌≡◌, length}
use Rattle.record_ledger.proofs.dealing.no_dealings.Given as goal

abbrev pub invariant-loop-made : goal.invariant-loop-made
invariant-loop-made l = record { many : length l.dealings.items ≡ l._made }
