-- The records of the run so far are taken in.
use Rattle.std.proofs.Common.{take}
use Rattle.meter_io.specs.Sides.{side}
use Rattle.ipfix_writer.proofs.TakenIn.{TakenSoFar}
use Rattle.ipfix_writer.proofs.stream.emit_run.Given as goal

abbrev pub invariant-loop-flow : goal.invariant-loop-flow
invariant-loop-flow g l =
    TakenSoFar l.fn.emitter l.emitter (side g.K.Sink.held g.K.Sink.faults l.fn.sink l.sink) (take l.flow-index l.run)
