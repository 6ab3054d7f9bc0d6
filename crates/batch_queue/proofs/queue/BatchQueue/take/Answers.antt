use Rattle.batch_queue.proofs.Queueing.{pops, learns}
use Rattle.batch_queue.proofs.queue.BatchQueue.take.Goals as goal

pub pop_as-requires-clause-rule : goal.pop_as-requires-clause-rule
pop_as-requires-clause-rule g c = (pops _ _ c.args.pass.now.seated, learns _ _)
