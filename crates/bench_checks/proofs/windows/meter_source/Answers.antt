-- The parts are a rearrangement of what was handed, and so the other way round.
use Rattle.std.proofs.lemmas.List.Sorted.{IsPermutation-sym}
use Rattle.bench_checks.proofs.windows.meter_source.Goals as goal

pub close-requires-clause-handed : goal.close-requires-clause-handed
close-requires-clause-handed g c = IsPermutation-sym
    (g.M.Cache.FlowCache.shown c.in-Ok.metered.pass).note.handed
    c.in-Ok.metered.parts c.in-Ok.ensures.parts
