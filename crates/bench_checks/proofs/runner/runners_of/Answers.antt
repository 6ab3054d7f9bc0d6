use Rattle.std.proofs.Common.{Some, rules, ◌≡◌, ◌≤◌, ap, sym, subst, arith}
use Rattle.std.specs.Prelude.{All}
use Rattle.std.proofs.lemmas.List.Elements.{All-pop, All-push, All-same}
use Rattle.cache_face.specs.Keeping.{packet_count}
use Rattle.cache_face.specs.Meaning.{PassMeans, IsFresh}
use Rattle.cache_face.specs.Notes.{Note}
use Rattle.bench_checks.specs.declared.runner.Runner.{Runner}
use Rattle.bench_checks.specs.Going.{IsGoing}
use Rattle.bench_checks.proofs.runner.runners_of.Goals as goal

-- a fresh pass was given nothing
fresh-going : (pass : PassMeans) → IsFresh pass → IsGoing 0 pass
fresh-going pass fresh = record {
  single = ap (λ (n : Note). n.seats) fresh.0;
  few = subst (λ (n : Note). packet_count n.taken ≤ 0) (sym fresh.0) (omega arith);
}

pub loop-pass-preserved : goal.loop-pass-preserved
loop-pass-preserved g c =
    let Fresh : g.row.C-Pass.Denot → Type 0 =
    λ p. g.C.FlowCache.is_of c.args.cache.now p × IsFresh (g.C.FlowCache.shown p) in
    let Own : Runner g.row.C.Denot g.row.C-Pass.Denot → Type 0 =
    λ r. g.C.FlowCache.is_of c.args.cache.now r.pass × IsGoing r.count (g.C.FlowCache.shown r.pass) in
    let p = All-pop Fresh _ _ (Some c.in-Some.pass) c.in-Some.ensures.items c.loop-pass.invariant.left in
    record {
      left = p.0;
      going = All-same Own _ _ c.in_ok-push.ensures.items (All-push Own _ _ c.loop-pass.invariant.going
          (p.1.0, fresh-going (g.C.FlowCache.shown c.in-Some.pass) p.1.1));
      many = search rules;
    }
