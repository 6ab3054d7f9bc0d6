use Rattle.pebr_roots.specs.Passes.{operations_by}
use Rattle.flow_cache.proofs.Sparing.{made_of}
use Rattle.flow_cache.proofs.cache.PebrCache.protect.Goals as goal

pub returns-clause-few : goal.returns-clause-few
returns-clause-few c =
    made_of _ _ 11 (operations_by c.args.pass.now) (operations_by c.reach.new.pass) c.reach.ensures.few
