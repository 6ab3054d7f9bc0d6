use Rattle.meter_io.specs.Sides.{side}
use Rattle.meter_program.proofs.Metered.{read-and-gathered}
use Rattle.pipe_program.proofs.metering.gathered_in_batches.Goals as goal

pub returns-clause-records : goal.returns-clause-records
returns-clause-records g c =
    let done = c.in_ok-gathered.gathered in
    read-and-gathered (side g.S.Source.left g.S.Source.faults c.args.input.now c.meter_in_batches.new.input)
    c.args.settings.now.idle c.args.settings.now.active c.new-limits.result
    (g.M.Caches.metered c.meter_in_batches.new.caches) c.in_ok-parts.parts done.records c.in_ok-parts.counted.tally
    done.tally c.in_ok-parts.counted.tail done.tail c.in_ok-parts.ensures.given c.new-limits.ensures.idle
    c.new-limits.ensures.active c.in_ok-parts.ensures.kept c.in_ok-gathered.ensures
