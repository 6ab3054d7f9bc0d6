use Rattle.batch_queue.proofs.Queueing.{pushes, learns}
use Rattle.batch_queue.proofs.queue.BatchQueue.offer.Goals as goal

pub push_as-requires-clause-rule : goal.push_as-requires-clause-rule
push_as-requires-clause-rule g c = (pushes _ _ _ _ c.requires.reader c.requires.behind, learns _ _)
