use Rattle.std.proofs.Common.{◌∙◌, arith}
use Rattle.std.specs.List.{range_with_len}
use Rattle.std.proofs.lemmas.List.{map-id}
use Rattle.std.proofs.lemmas.List.FromFn.{fill_by_all}
use Rattle.pebr_core.proofs.start.first_roots.Goals as goal

pub returns : goal.returns
returns c = fill_by_all (λ k. k) c.loop-root.roots c.args.count 0 c.loop-root.invariant.0
    (λ k h. c.loop-root.invariant.1 k (omega arith)) ∙ map-id (range_with_len 0 c.args.count)
