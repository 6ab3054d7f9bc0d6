use Rattle.std.proofs.Common.{◌≡◌, ◌≤◌, ◌++◌, flat_map, drop}
use Rattle.std.specs.Vec.{vec_capacity}
use Rattle.ipfix_writer.specs.Encoding.{field_specifier}
use Rattle.ipfix_writer.proofs.message.append_fields.Given as goal

abbrev pub invariant-loop-field : goal.invariant-loop-field
invariant-loop-field l = record {
  items : l.buffer.items ++ flat_map field_specifier (drop l.field-index l.fields) ≡ l.initial.buffer.items
      ++ flat_map field_specifier l.fields;
  room : vec_capacity l.initial.buffer ≤ vec_capacity l.buffer;
}
