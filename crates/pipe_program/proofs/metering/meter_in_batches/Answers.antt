use Rattle.std.proofs.lemmas.List.Sorted.{IsPermutation-sym}
use Rattle.meter_io.specs.Sides.{side}
use Rattle.meter_program.proofs.Metered.{read-and-kept}
use Rattle.pipe_program.proofs.metering.meter_in_batches.Goals as goal

pub close-requires-clause-handed : goal.close-requires-clause-handed
close-requires-clause-handed g c =
    IsPermutation-sym (g.M.Cache.FlowCache.shown c.in_ok-done.done.pass).note.handed c.in_ok-done.done.parts
    c.in_ok-done.ensures.parts

pub returns-clause-kept : goal.returns-clause-kept
returns-clause-kept g c =
    let means = g.M.Cache.FlowCache.means c.in_ok-cache.cache in
    let note = (g.M.Cache.FlowCache.shown c.in_ok-done.done.pass).note in
    read-and-kept (side g.S.Source.left g.S.Source.faults c.args.input.now c.meter_batches.new.source) means.limits
    c.args.limits note.taken (g.M.Caches.metered c.close.new.self) c.in_ok-done.done.tally c.in_ok-done.done.tail
    c.in_ok-cache.ensures.cache.2 c.in_ok-done.ensures.metered c.in_ok-parts.ensures.shared
