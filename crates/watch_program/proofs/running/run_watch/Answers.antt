use Rattle.meter_io.specs.Sides.{side}
use Rattle.watch_program.specs.Words.{asked_of}
use Rattle.watch_program.proofs.Complete.{completes}
use Rattle.watch_program.proofs.running.run_watch.Goals as goal

pub returns-in-Ok-clause-complete : goal.returns-in-Ok-clause-complete
returns-in-Ok-clause-complete g c =
    λ words bytes is before valid quiet quiet'.
    completes (asked_of c.in-Ok.settings)
    (side g.S.Source.left g.S.Source.faults c.args.input.now c.watch_input.new.input)
    (side g.K.Sink.held g.K.Sink.faults c.args.output.now c.watch_input.new.output)
    bytes c.watch_input.result c.watch_input.ensures before valid quiet quiet'
