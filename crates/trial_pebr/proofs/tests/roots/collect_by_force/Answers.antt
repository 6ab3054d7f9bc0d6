use Rattle.std.proofs.Common.{◌+◌, ◌-◌, ◌*◌, ◌≤◌, refl, subst}
use Rattle.pebr_roots.specs.Orders.{HasMade}
use Rattle.pebr_roots.specs.Passes.{operations_by, shape_at}
use Rattle.trial_pebr.proofs.tests.roots.collect_by_force.Goals as goal

pub returns-clause-operations : goal.returns-clause-operations
returns-clause-operations c =
    let shape = shape_at c.args.roots.now in
    let old = operations_by c.args.pass.now in
    let new = operations_by c.collect.new.pass in
    subst (λ shields. HasMade (2 * (2 - 1) + (2 - 1) * shields + 4) old new) c.requires.two.1
    (subst (λ seats. HasMade (2 * (seats - 1) + (seats - 1) * shape.shields + 4) old new) c.requires.two.0
    c.collect.ensures.few)

pub returns-clause-left : goal.returns-clause-left
returns-clause-left c =
    let shape = shape_at c.args.roots.now in
    let left = c.collect.result.left in
    subst (λ shields. left ≤ (2 - 1) * shields) c.requires.two.1
    (subst (λ seats. left ≤ (seats - 1) * shape.shields) c.requires.two.0 (c.collect.ensures.left refl))
