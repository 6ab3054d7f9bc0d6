use Rattle.capture_tally.proofs.Counting.{tally-permuted}
use Rattle.capture_tally.proofs.laws.order_law.Goals as goal

pub returns : goal.returns
returns c = λ tally answers others same is.
    tally-permuted tally answers others (c.packets_law.ensures.permuted answers others) c.clock_law.ensures.permuted
    same is
