use Rattle.std.proofs.Common.{◌≡◌, ◌≤◌, ◌++◌, drop}
use Rattle.std.specs.Vec.{vec_capacity}
use Rattle.ipfix_writer.specs.Layout.{records_in}
use Rattle.ipfix_writer.proofs.body.append_data_records.Given as goal

abbrev pub invariant-loop-one : goal.invariant-loop-one
invariant-loop-one g l = record {
  items : l.buffer.items ++ records_in g.R.Encode.encode (drop l.one-index l.records) ≡ l.initial.buffer.items
      ++ records_in g.R.Encode.encode l.records;
  room : vec_capacity l.initial.buffer ≤ vec_capacity l.buffer;
}
