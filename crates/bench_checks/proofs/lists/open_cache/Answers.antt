use Rattle.std.proofs.Common.{Some}
use Rattle.std.proofs.lemmas.List.Elements.{All-pop}
use Rattle.cache_face.specs.Meaning.{IsFresh}
use Rattle.flow_cache.specs.Shown.{IsOf, shown_of}
use Rattle.bench_checks.proofs.lists.open_cache.Goals as goal

pub looked_of-requires : goal.looked_of-requires
looked_of-requires c =
    (All-pop (λ p. IsOf c.in_ok-inner.inner p × IsFresh (shown_of p)) c.in_ok-inner.passes.items c.pop.new.self.items
    (Some c.in-Some.own) c.in-Some.ensures.items c.in_ok-inner.ensures.passes.1).0

pub returns-clause-own : goal.returns-clause-own
returns-clause-own c =
    (All-pop (λ p. IsOf c.in_ok-inner.inner p × IsFresh (shown_of p)) c.in_ok-inner.passes.items c.pop.new.self.items
    (Some c.in-Some.own) c.in-Some.ensures.items c.in_ok-inner.ensures.passes.1).1
