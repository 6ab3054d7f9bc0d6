use Rattle.std.proofs.Common.{arith}
use Rattle.pebr_roots.specs.Passes.{shape_at, number_by, operations_by}
use Rattle.flow_cache.proofs.Sparing.{spared_on, spared_in}
use Rattle.flow_cache.proofs.cache.PebrCache.reach_and_put.Goals as goal

pub returns-in-Valid-clause-few : goal.returns-in-Valid-clause-few
returns-in-Valid-clause-few g c =
    spared_on (shape_at c.args.self.now.roots) (number_by c.args.pass.now) 11 51 (number_by c.reach.new.pass)
    (operations_by c.args.pass.now) (operations_by c.reach.new.pass) (operations_by c.put.new.pass)
    c.reach.ensures.same.still.1 c.reach.ensures.few c.put.ensures.few

pub returns-in-Ejected-clause-few : goal.returns-in-Ejected-clause-few
returns-in-Ejected-clause-few g c =
    spared_in (shape_at c.args.self.now.roots) (number_by c.args.pass.now) 11 62 (operations_by c.args.pass.now)
    (operations_by c.reach.new.pass) (omega arith) c.reach.ensures.few
