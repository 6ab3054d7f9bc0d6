-- The list of what was handed out is a permutation of itself.
use Rattle.std.proofs.Common.{rules, ◌≡◌, IsPermutation, subst}
use Rattle.std.proofs.lemmas.List.Sorted.{IsPermutation-refl}
use Rattle.bench_checks.proofs.threads.is_whole.Goals as goal

pub close-requires-clause-handed : goal.close-requires-clause-handed
close-requires-clause-handed g c =
    let parts = c.in_ok-metered.metered.parts in
    let same : parts ≡ (g.M.Cache.FlowCache.shown c.in_ok-metered.metered.pass).note.handed = search rules in
    subst (λ list. IsPermutation parts list) same (IsPermutation-refl parts)
