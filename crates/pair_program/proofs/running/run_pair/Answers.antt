use Rattle.meter_io.specs.Sides.{side}
use Rattle.pair_program.specs.Words.{asked_of}
use Rattle.pair_program.proofs.Complete.{completes}
use Rattle.pair_program.proofs.running.run_pair.Goals as goal

pub returns-in-Ok-clause-complete : goal.returns-in-Ok-clause-complete
returns-in-Ok-clause-complete g c =
    λ words bytes is before valid quiet quiet'.
    completes (asked_of c.in-Ok.settings)
    (side g.S.Source.left g.S.Source.faults c.args.input.now c.pair_input.new.input)
    (side g.K.Sink.held g.K.Sink.faults c.args.output.now c.pair_input.new.output)
    bytes c.pair_input.result c.pair_input.ensures before valid quiet quiet'
