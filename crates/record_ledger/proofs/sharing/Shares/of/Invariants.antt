-- Fewer ends than the number of the next share.
use Rattle.std.proofs.Common.{◌<◌, length}
use Rattle.record_ledger.proofs.sharing.Shares.of.Given as goal

abbrev pub invariant-loop-share : goal.invariant-loop-share
invariant-loop-share l = record { fewer : length l.ends.items < l.share }
