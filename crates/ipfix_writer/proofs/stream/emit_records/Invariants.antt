-- The records of the runs so far are taken in.
use Rattle.std.proofs.Common.{◌*◌, take}
use Rattle.meter_io.specs.Sides.{side}
use Rattle.ipfix_writer.proofs.TakenIn.{TakenSoFar}
use Rattle.ipfix_writer.proofs.stream.emit_records.Given as goal

abbrev pub invariant-loop-number : goal.invariant-loop-number
invariant-loop-number g l =
    TakenSoFar l.fn.emitter l.emitter (side g.K.Sink.held g.K.Sink.faults l.fn.sink l.sink)
    (take (l.number * 16) l.records)
