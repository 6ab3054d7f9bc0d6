use Rattle.std.proofs.Common.{Some, rules}
use Rattle.std.proofs.lemmas.List.Elements.{All-pop, All-push, All-same}
use Rattle.cache_face.specs.Meaning.{IsFresh}
use Rattle.flow_cache.specs.declared.cache.PebrPass.{PebrPass}
use Rattle.flow_cache.specs.Shown as inner
use Rattle.bench_checks.specs.declared.looked.LookedPass.{LookedPass}
use Rattle.bench_checks.specs.Looked.{IsOf, shown_of}
use Rattle.bench_checks.proofs.lists.looked_of.Goals as goal

pub loop-pass-preserved : goal.loop-pass-preserved
loop-pass-preserved c =
    let Fresh : PebrPass → Type 0 = λ p. inner.IsOf c.args.cache.now.inner p × IsFresh (inner.shown_of p) in
    let Looked : LookedPass → Type 0 = λ p. IsOf c.args.cache.now p × IsFresh (shown_of p) in
    let p = All-pop Fresh _ _ (Some c.in-Some.pass) c.in-Some.ensures.items c.loop-pass.invariant.left in
    record {
      left = p.0;
      fresh = All-same Looked _ _ c.in_ok-push.ensures.items (All-push Looked _ _ c.loop-pass.invariant.fresh p.1);
      many = search rules;
    }
