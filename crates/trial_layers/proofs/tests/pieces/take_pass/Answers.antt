use Rattle.std.proofs.lemmas.List.Elements.{All-pop}
use Rattle.work_pieces.specs.Passes.{IsPassOf, IsFresh}
use Rattle.trial_layers.proofs.tests.pieces.take_pass.Goals as goal

pub returns-clause-last : goal.returns-clause-last
returns-clause-last c =
    (All-pop (λ pass. IsPassOf c.args._pieces.now pass × IsFresh pass) c.args.passes.now.items
    c.pop.new.self.items c.pop.result c.pop.ensures.items c.requires).1

pub returns-clause-others : goal.returns-clause-others
returns-clause-others c =
    (All-pop (λ pass. IsPassOf c.args._pieces.now pass × IsFresh pass) c.args.passes.now.items
    c.pop.new.self.items c.pop.result c.pop.ensures.items c.requires).0
