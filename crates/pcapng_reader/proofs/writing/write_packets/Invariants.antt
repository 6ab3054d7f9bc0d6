-- What was written so far, and what is held behind it.
use Rattle.std.proofs.Common.{◌≡◌, ◌≤◌, [], take}
use Rattle.std.specs.Vec.{vec_capacity}
use Rattle.sink_buffer.specs.Passing.{IsPassed}
use Rattle.pcapng_reader.specs.Index.{records_at}
use Rattle.pcapng_reader.specs.Filtered.{capture_of}
use Rattle.pcapng_reader.specs.Tallied.{IsTallyOf}
use Rattle.pcapng_reader.proofs.writing.write_packets.Given as goal

abbrev pub invariant-loop-n : goal.invariant-loop-n
invariant-loop-n g l = record {
  way : IsPassed (g.K.Sink.held l.fn.output) (g.K.Sink.held l.output) [] l.out
      (capture_of (take l.n (records_at l.capture.bytes.now l.index)));
  room : 16 ≤ vec_capacity l.room;
  told : IsTallyOf l.tally (take l.n (records_at l.capture.bytes.now l.index));
  blocks : l.tally.blocks ≡ l.fn.tally.blocks;
  tail : l.tally.tail ≡ l.fn.tally.tail;
  quiet : g.K.Sink.faults l.output ≡ g.K.Sink.faults l.fn.output;
}
