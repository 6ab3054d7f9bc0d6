use Rattle.meter_workers.proofs.Common.{◌≡◌, ◌+◌, [], length, vec_len, All, IsFresh, IsShareOf}
use Rattle.meter_workers.proofs.share.open_shares.Given as goal

abbrev pub invariant-loop-pass : goal.invariant-loop-pass
invariant-loop-pass g l = record {
  many : length l.shares.items + length l.passes.items ≡ length l.initial.passes.items;
  left : All (λ p. g.C.FlowCache.is_of l.cache p × IsFresh (g.C.FlowCache.shown p)) l.passes.items;
  shares : All (IsShareOf g.C.FlowCache l.cache []) l.shares.items;
}

abbrev pub decreases-loop-pass : goal.decreases-loop-pass
decreases-loop-pass g l = vec_len l.passes
