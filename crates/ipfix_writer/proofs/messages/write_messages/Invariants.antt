-- What is left can be laid out behind what the sink took and what is held.
use Rattle.std.proofs.Common.{◌≡◌, ◌≤◌, ◌-◌, length}
use Rattle.std.specs.Vec.{vec_capacity}
use Rattle.ipfix_writer.proofs.Through.{GoesOn}
use Rattle.ipfix_writer.proofs.messages.write_messages.Given as goal

abbrev pub invariant-loop-done : goal.invariant-loop-done
invariant-loop-done g l = record {
  within : l.done ≤ length l.records;
  room : l.form.size ≤ vec_capacity l.room;
  way : GoesOn g.R.Encode.encode l.form.size l.form.export_time l.first l.records l.done (g.K.Sink.held l.fn.sink)
      (g.K.Sink.held l.sink) l.out;
  quiet : g.K.Sink.faults l.sink ≡ g.K.Sink.faults l.fn.sink;
}

abbrev pub decreases-loop-done : goal.decreases-loop-done
decreases-loop-done g l = length l.records - l.done
