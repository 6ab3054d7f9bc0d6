-- The parts are a permutation of what was handed out, and so the other way round.
use Rattle.std.proofs.lemmas.List.Sorted.{IsPermutation-sym}
use Rattle.trial_metering.proofs.tests.piped.meter_through.Goals as goal

pub close-requires-clause-handed : goal.close-requires-clause-handed
close-requires-clause-handed g c = IsPermutation-sym
    (g.M.Cache.FlowCache.shown c.in-Ok.metered.pass).note.handed
    c.in-Ok.metered.parts c.in-Ok.ensures.parts
