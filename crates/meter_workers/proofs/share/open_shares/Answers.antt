use Rattle.meter_workers.proofs.Common.{Some, [], rules, sym, subst, All, All-cons, All-pop, IsFresh, IsShareOf}
use Rattle.meter_workers.proofs.share.open_shares.Goals as goal

pub loop-pass-preserved : goal.loop-pass-preserved
loop-pass-preserved g c = record {
  many = search rules;
  left = (All-pop (λ p. g.C.FlowCache.is_of c.args.cache.now p × IsFresh (g.C.FlowCache.shown p)) _ _
      (Some c.in-Some.pass) c.in-Some.ensures.items c.loop-pass.invariant.left).0;
  shares = subst (All (IsShareOf g.C.FlowCache c.args.cache.now [])) (sym c.in_ok-insert.ensures.items)
      (All-cons (IsShareOf g.C.FlowCache c.args.cache.now []) c.in_ok-open_share.field-0 c.loop-pass.shares.items
      c.in_ok-open_share.ensures c.loop-pass.invariant.shares);
}
