-- What is left can be laid out behind what was written.
use Rattle.std.proofs.Common.{◌≤◌, ◌-◌, ◌++◌, ℕ, List, length}
use Rattle.std.specs.Vec.{vec_capacity}
use Rattle.ipfix_writer.specs.Layout.{IsStream}
use Rattle.ipfix_writer.proofs.Rests.{IsRest}
use Rattle.ipfix_writer.proofs.messages.append_messages.Given as goal

abbrev pub invariant-loop-done : goal.invariant-loop-done
invariant-loop-done g l = record {
  within : l.done ≤ length l.records;
  room : l.form.size ≤ vec_capacity l.buffer;
  goes_on : (bytes : List ℕ) → IsRest g.R.Encode.encode l.form.size l.form.export_time l.records l.done bytes
      → IsStream g.R.Encode.encode l.form.size l.form.export_time l.fn.stream.items l.records (l.stream.items ++ bytes);
}

abbrev pub decreases-loop-done : goal.decreases-loop-done
decreases-loop-done g l = length l.records - l.done
