-- The records of the rounds so far are taken in, and those of the next one are copied.
use Rattle.std.proofs.Common.{◌≡◌, ◌<◌, ◌-◌, length, take, All}
use Rattle.meter_io.specs.Sides.{side}
use Rattle.ipfix_writer.specs.Copies.{IsWhole, HaveCopies}
use Rattle.ipfix_writer.proofs.TakenIn.{TakenSoFar}
use Rattle.ipfix_writer.proofs.rounds.emit_rounds.Given as goal

abbrev pub invariant-loop-from : goal.invariant-loop-from
invariant-loop-from g l = record {
  some : 0 < length l.current.items;
  alike : length l.next.items ≡ length l.current.items;
  whole : All IsWhole l.next.items;
  copies : HaveCopies l.records l.from l.current.items;
  taken : TakenSoFar l.fn.emitter l.emitter (side g.K.Sink.held g.K.Sink.faults l.fn.sink l.sink)
      (take l.from l.records);
}

abbrev pub decreases-loop-from : goal.decreases-loop-from
decreases-loop-from g l = length l.records - l.from
