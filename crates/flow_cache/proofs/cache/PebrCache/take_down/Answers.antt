use Rattle.std.proofs.Common.{ap}
use Rattle.pebr_core.specs.declared.kinds.Shape.{Shape}
use Rattle.pebr_roots.specs.Passes.{shape_at, number_by, operations_by}
use Rattle.flow_cache.proofs.Sparing.{cleared_spares}
use Rattle.flow_cache.proofs.cache.PebrCache.take_down.Goals as goal

pub returns-clause-few : goal.returns-clause-few
returns-clause-few g c =
    cleared_spares (shape_at c.args.self.now.roots) (number_by c.args.pass.now)
    (ap (λ (s : Shape). s.shields) c.args.self.now.shaped) (operations_by c.args.pass.now)
    (operations_by c.clear.new.pass) c.clear.ensures.operations
