use Rattle.bench_checks.specs.Going.{IsGoing}
use Rattle.bench_checks.proofs.runner.run_share.Given as goal

abbrev pub invariant-loop-piece : goal.invariant-loop-piece
invariant-loop-piece g l = record {
  own : g.C.FlowCache.is_of l.cache l.runner.pass;
  going : IsGoing l.runner.count (g.C.FlowCache.shown l.runner.pass);
}
