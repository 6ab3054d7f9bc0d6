use Rattle.meter_io.specs.Sides.{side}
use Rattle.meter_program.specs.Seen.{seen_of}
use Rattle.meter_program.proofs.Endings.{meter-ends}
use Rattle.pipe_program.proofs.metering.pipe_input.Goals as goal

pub returns-in-Ok-clause-ends : goal.returns-in-Ok-clause-ends
returns-in-Ok-clause-ends g c =
    let settings = c.args.settings.now in
    let gathered = c.in-Ok.gathered in
    meter-ends settings.idle settings.active settings.workers settings.sets settings.batch settings.size
    (seen_of (side g.S.Source.left g.S.Source.faults c.args.input.now c.gathered_in_batches.new.input)
    (side g.K.Sink.held g.K.Sink.faults c.args.output.now c.write_stream.new.output)
    (side g.E.Sink.held g.E.Sink.faults c.args.stderr.now c.write_stream.new.stderr)
    (g.M.Caches.metered c.gathered_in_batches.new.caches))
    gathered.records gathered.tally gathered.tail _ c.in-Ok.ensures.records c.write_stream.ensures
