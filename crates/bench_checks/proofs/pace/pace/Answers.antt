use Rattle.std.proofs.Common.{◌≡◌, Some, Ok, Err, Option, Result, unwrap_or, sym, ap, subst}
use Rattle.std.specs.Prelude.{All, IfOk}
use Rattle.std.specs.Result.{result_ok}
use Rattle.bench_checks.specs.declared.runner.Runner.{Runner}
use Rattle.bench_checks.specs.Going.{IsGoing}
use Rattle.bench_checks.proofs.pace.pace.Goals as goal

-- what holds of an answer holds of its value
of_value : {A E : Type 0} (P : A → Type 0) (r : Result A E) (a : A) → Some a ≡ result_ok r → IfOk r P → P a
of_value P (Ok b) a is p = subst P (ap (λ (o : Option _). unwrap_or o a) (sym is)) p
of_value P (Err e) a is p = absurd cc

pub run_all-requires-clause-going : goal.run_all-requires-clause-going
run_all-requires-clause-going g c κs within =
    let Own : Runner g.row.M-Cache.Denot g.row.M-Cache-Pass.Denot → Type 0 =
    λ r. g.M.Cache.FlowCache.is_of c.in_ok-cache.cache r.pass × IsGoing r.count (g.M.Cache.FlowCache.shown r.pass) in
    subst (All Own) (sym c.as_mut_slice.ensures.value)
    (of_value (λ runners. All Own runners.items) c.runners_of.result c.in_ok-runners.runners
    c.in_ok-runners.ensures.value c.runners_of.ensures.going)
