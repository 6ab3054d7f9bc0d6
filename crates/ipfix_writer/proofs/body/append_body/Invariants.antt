use Rattle.std.proofs.Common.{◌≡◌, ◌≤◌, ◌-◌, ◌++◌, length, drop}
use Rattle.std.specs.Vec.{vec_capacity}
use Rattle.ipfix_writer.specs.Layout.{body_in}
use Rattle.ipfix_writer.proofs.body.append_body.Given as goal

abbrev pub invariant-loop-done : goal.invariant-loop-done
invariant-loop-done g l = record {
  within : l.done ≤ length l.records;
  items : l.buffer.items ++ body_in g.R.Encode.encode (drop l.done l.records) ≡ l.initial.buffer.items
      ++ body_in g.R.Encode.encode l.records;
  longer : length l.initial.buffer.items ≤ length l.buffer.items;
  room : vec_capacity l.initial.buffer ≤ vec_capacity l.buffer;
}

abbrev pub decreases-loop-done : goal.decreases-loop-done
decreases-loop-done g l = length l.records - l.done
