use Rattle.std.proofs.Common.{◌<◌, get_or, subst, sym, ap, arith}
use Rattle.pebr_core.specs.declared.kinds.Shape.{Shape}
use Rattle.pebr_roots.specs.Passes.{IsOpenedPass}
use Rattle.trial_pebr.proofs.tests.roots.two.Goals as goal

pub returns-clause-first : goal.returns-clause-first
returns-clause-first c =
    let seats = ap (λ (s : Shape). s.seats) c.in_ok-roots.ensures.roots.0 in
    subst (λ l. IsOpenedPass c.in_ok-roots.roots tt 0 (get_or l 0 c.in_ok-first.first)) c.in_ok-first.ensures
    (c.in_ok-roots.ensures.passes.each 0 c.in_ok-first.first (subst (λ n. 0 < n) (sym seats) (omega arith)))

pub returns-clause-second : goal.returns-clause-second
returns-clause-second c =
    let seats = ap (λ (s : Shape). s.seats) c.in_ok-roots.ensures.roots.0 in
    subst (λ l. IsOpenedPass c.in_ok-roots.roots tt 1 (get_or l 1 c.in_ok-first.second)) c.in_ok-first.ensures
    (c.in_ok-roots.ensures.passes.each 1 c.in_ok-first.second (subst (λ n. 1 < n) (sym seats) (omega arith)))
