-- The records of the runs so far are taken in.
use Rattle.std.proofs.Common.{take}
use Rattle.meter_io.specs.Sides.{side}
use Rattle.ipfix_writer.specs.Layout.{together}
use Rattle.ipfix_writer.proofs.TakenIn.{TakenSoFar}
use Rattle.ipfix_writer.proofs.rounds.emit_part.Given as goal

abbrev pub invariant-loop-run : goal.invariant-loop-run
invariant-loop-run g l =
    TakenSoFar l.fn.emitter l.emitter (side g.K.Sink.held g.K.Sink.faults l.fn.sink l.sink)
    (together (take l.run-index l.part))
