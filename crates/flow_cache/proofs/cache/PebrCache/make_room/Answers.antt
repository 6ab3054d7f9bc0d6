use Rattle.std.proofs.Common.{ap, arith}
use Rattle.pebr_core.specs.Frames.{fresh_count}
use Rattle.pebr_core.specs.State.{slots_per_seat}
use Rattle.pebr_roots.specs.Passes.{shape_at, known_by_pass, number_by, past_by}
use Rattle.flow_cache.proofs.Spared.{collects_from}
use Rattle.pebr_roots.specs.Passes.{operations_by}
use Rattle.pebr_roots.proofs.Counts.{made_on, made_in}
use Rattle.flow_cache.proofs.cache.PebrCache.make_room.Goals as goal

pub returns-clause-collects : goal.returns-clause-collects
returns-clause-collects c =
    let old = c.args.pass.now in
    let mid = c.collect_batch.new.pass in
    let slots = ap slots_per_seat c.args.self.now.shaped in
    let held = c.requires.of.held in
    let more = c.collect_batch.ensures.fresh in
    collects_from (shape_at c.args.self.now.roots) (number_by old) (known_by_pass old) (fresh_count (known_by_pass mid))
    (past_by old) (past_by mid) (past_by c.collect_if_none.new.pass) (operations_by old) (operations_by mid)
    (operations_by c.collect_if_none.new.pass) _ c.collect_batch.ensures.many c.collect_batch.ensures.batch
    c.collect_batch.ensures.none c.collect_if_none.ensures.none c.collect_if_none.ensures.some
    (λ low. omega (arith, low, slots, held, more)) c.collect_if_none.ensures.few

pub returns-clause-few : goal.returns-clause-few
returns-clause-few c =
    let x = operations_by c.args.pass.now in
    let y = operations_by c.collect_batch.new.pass in
    let z = operations_by c.collect_if_none.new.pass in
    made_in _ _ x z (omega arith) (made_on _ _ x y z c.collect_batch.ensures.few c.collect_if_none.ensures.few)
