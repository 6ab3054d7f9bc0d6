use Rattle.std.proofs.Common.{rules}
use Rattle.batch_queue.proofs.Saying.{hears, joins}
use Rattle.batch_queue.proofs.Queueing.{merges, learns}
use Rattle.batch_queue.proofs.queue.BatchQueue.unite.Goals as goal

pub absorb-requires-clause-rule : goal.absorb-requires-clause-rule
absorb-requires-clause-rule c = merges _ _ _ _

pub learn_as-requires-clause-rule : goal.learn_as-requires-clause-rule
learn_as-requires-clause-rule c = learns _ _

pub join_seat-requires : goal.join_seat-requires
join_seat-requires c = (
  search rules,
  search rules,
  search rules,
  search rules,
  joins _ c.args.first.seat.me.0 _ c.args.second.seat.me.0,
)

pub load-requires : goal.load-requires
load-requires c = (search rules, search rules, hears _ _ c.join_seat.new.seat.me)
