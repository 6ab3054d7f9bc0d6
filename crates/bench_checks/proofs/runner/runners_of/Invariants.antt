use Rattle.std.proofs.Common.{◌≡◌, ◌+◌, length, vec_len}
use Rattle.std.specs.Prelude.{All}
use Rattle.cache_face.specs.Meaning.{IsFresh}
use Rattle.bench_checks.specs.Going.{IsGoing}
use Rattle.bench_checks.proofs.runner.runners_of.Given as goal

abbrev pub invariant-loop-pass : goal.invariant-loop-pass
invariant-loop-pass g l = record {
  left : All (λ p. g.C.FlowCache.is_of l.cache p × IsFresh (g.C.FlowCache.shown p)) l.passes.items;
  going : All (λ r. g.C.FlowCache.is_of l.cache r.pass × IsGoing r.count (g.C.FlowCache.shown r.pass)) l.runners.items;
  many : length l.runners.items + length l.passes.items ≡ length l.initial.passes.items;
}

abbrev pub decreases-loop-pass : goal.decreases-loop-pass
decreases-loop-pass g l = vec_len l.passes
