use Rattle.std.proofs.Common.{arith}
use Rattle.bench_checks.proofs.lists.came_of_bytes.Goals as goal

pub at_once-asked-requires-clause-passes : goal.at_once-asked-requires-clause-passes
at_once-asked-requires-clause-passes g c κs within =
    let many = c.in-Ok.ensures.many in
    let workers = c.args.setting.workers_bounds in
    (omega (arith, many, workers.0), omega (arith, many, workers.1), c.in-Ok.ensures.passes)

pub at_once-asked-requires-clause-own : goal.at_once-asked-requires-clause-own
at_once-asked-requires-clause-own g c κs within = c.in-Ok.ensures.own
