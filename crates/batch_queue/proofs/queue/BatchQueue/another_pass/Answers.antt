use Rattle.std.proofs.Common.{rules}
use Rattle.batch_queue.proofs.Saying.{parts}
use Rattle.batch_queue.proofs.Queueing.{forks}
use Rattle.batch_queue.proofs.queue.BatchQueue.another_pass.Goals as goal

pub another-pass-requires-clause-rule : goal.another-pass-requires-clause-rule
another-pass-requires-clause-rule c = forks _ _ c.requires.reader

pub split_seat-seat-requires : goal.split_seat-seat-requires
split_seat-seat-requires c = (search rules, search rules, parts _ c.args.reader.now.seat.me.0)
