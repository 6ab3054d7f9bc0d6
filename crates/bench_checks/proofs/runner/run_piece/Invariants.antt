use Rattle.bench_checks.specs.Going.{IsGoing}
use Rattle.bench_checks.proofs.runner.run_piece.Given as goal

abbrev pub invariant-loop-packet : goal.invariant-loop-packet
invariant-loop-packet g l = record {
  own : g.C.FlowCache.is_of l.cache l.runner.pass;
  going : IsGoing l.runner.count (g.C.FlowCache.shown l.runner.pass);
}
