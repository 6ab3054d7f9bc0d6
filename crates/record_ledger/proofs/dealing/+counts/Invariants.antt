-- Behind one thread's pieces there is one thread fewer.
use Rattle.std.proofs.Common.{◌+◌, ◌*◌}
use Rattle.record_ledger.proofs.dealing.+counts.Given as goal

abbrev pub decreases-count_shares : goal.decreases-count_shares
decreases-count_shares g l = 4 * l.threads + 3

abbrev pub decreases-count_both : goal.decreases-count_both
decreases-count_both g l = 4 * l.threads + 2

abbrev pub decreases-count_both-back : goal.decreases-count_both-back
decreases-count_both-back g l = 4 * l.rest + 4
