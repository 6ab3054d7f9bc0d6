use Rattle.std.proofs.Common.{◌≡◌, ◌+◌, length, vec_len}
use Rattle.std.specs.Prelude.{All}
use Rattle.cache_face.specs.Meaning.{IsFresh}
use Rattle.flow_cache.specs.Shown as inner
use Rattle.bench_checks.specs.Looked.{IsOf, shown_of}
use Rattle.bench_checks.proofs.lists.looked_of.Given as goal

abbrev pub invariant-loop-pass : goal.invariant-loop-pass
invariant-loop-pass l = record {
  left : All (λ p. inner.IsOf l.cache.inner p × IsFresh (inner.shown_of p)) l.passes.items;
  fresh : All (λ p. IsOf l.cache p × IsFresh (shown_of p)) l.looked.items;
  many : length l.looked.items + length l.passes.items ≡ length l.initial.passes.items;
}

abbrev pub decreases-loop-pass : goal.decreases-loop-pass
decreases-loop-pass l = vec_len l.passes
