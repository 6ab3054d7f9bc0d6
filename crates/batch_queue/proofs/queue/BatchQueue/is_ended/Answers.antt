use Rattle.std.proofs.Common.{rules}
use Rattle.batch_queue.proofs.Saying.{hears}
use Rattle.batch_queue.proofs.queue.BatchQueue.is_ended.Goals as goal

pub load-requires : goal.load-requires
load-requires c = (search rules, search rules, hears _ _ c.args.pass.now.seat.me)
