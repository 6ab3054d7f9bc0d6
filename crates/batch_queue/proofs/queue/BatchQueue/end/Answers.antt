use Rattle.std.proofs.Common.{rules}
use Rattle.batch_queue.proofs.Saying.{says}
use Rattle.batch_queue.proofs.queue.BatchQueue.end.Goals as goal

pub store-requires : goal.store-requires
store-requires c = (search rules, search rules, says _ _ c.args.feed.now.pass.seat.me c.requires.«open»)
