use Rattle.std.proofs.Common.{arith, ◌++◌, ◌∙◌, ◌+◌, ap, sym, flat_map, drop, get_or, None}
use Rattle.ipfix_writer.specs.Encoding.{field_specifier}
use Rattle.ipfix_writer.proofs.Sets.{fields_next, fields-more, room_for_next}
use Rattle.ipfix_writer.proofs.message.append_fields.Goals as goal

pub append_field-requires-clause-room : goal.append_field-requires-clause-room
append_field-requires-clause-room c =
    let i = c.loop-field.field-index in
    let fields = c.args.fields.now in
    let one = field_specifier (get_or fields i (record { element = 0; length = 0; enterprise = None })) in
    let rest = flat_map field_specifier (drop (i + 1) fields) in
    let next = fields_next fields i (record { element = 0; length = 0; enterprise = None }) c.loop-field-test.true in
    let fits =
    room_for_next c.loop-field.buffer.items one rest c.args.buffer.now.items (flat_map field_specifier fields) _
    (ap (λ bs. c.loop-field.buffer.items ++ bs) (sym next) ∙ c.loop-field.invariant.items) c.requires.room in
    omega (arith, fits, c.loop-field.invariant.room)

pub loop-field-preserved : goal.loop-field-preserved
loop-field-preserved c = record {
  items = fields-more _ _ _ _ _ _ c.loop-field-test.true c.append_field.ensures.items c.loop-field.invariant.items;
  room = omega arith;
}
