use Rattle.std.proofs.lemmas.List.Elements.{All-pop}
use Rattle.cache_face.specs.Meaning.{IsFresh}
use Rattle.flow_cache.specs.Shown.{shown_of, IsOf}
use Rattle.trial_caches.proofs.tests.packets.take_pass.Goals as goal

pub returns-clause-last : goal.returns-clause-last
returns-clause-last c =
    (All-pop (λ pass. IsOf c.args._cache.now pass × IsFresh (shown_of pass)) c.args.passes.now.items
    c.pop.new.self.items c.pop.result c.pop.ensures.items c.requires).1

pub returns-clause-others : goal.returns-clause-others
returns-clause-others c =
    (All-pop (λ pass. IsOf c.args._cache.now pass × IsFresh (shown_of pass)) c.args.passes.now.items
    c.pop.new.self.items c.pop.result c.pop.ensures.items c.requires).0
