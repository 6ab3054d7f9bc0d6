-- The records of the parts so far are taken in.
use Rattle.std.proofs.Common.{take}
use Rattle.meter_io.specs.Sides.{side}
use Rattle.ipfix_writer.specs.Copies.{records_of}
use Rattle.ipfix_writer.proofs.TakenIn.{TakenSoFar}
use Rattle.ipfix_writer.proofs.rounds.emit_parts.Given as goal

abbrev pub invariant-loop-part : goal.invariant-loop-part
invariant-loop-part g l =
    TakenSoFar l.fn.emitter l.emitter (side g.K.Sink.held g.K.Sink.faults l.fn.sink l.sink)
    (records_of (take l.part-index l.parts))
