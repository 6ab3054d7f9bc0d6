-- The message with the four templates, part by part.
use Rattle.std.proofs.Common.{arith, ap, length}
use Rattle.pair_program.proofs.BiRecords.{length-v4_record, length-v6_record, length-v4_bi_record, length-v6_bi_record}
use Rattle.pair_program.proofs.BiRecords.{longer_by-v4, longer_by-v6, longer_by-v4_bi, bi_template_message-written}
use Rattle.pair_program.proofs.encoding.append_templates.Goals as goal

pub append_template-requires-clause-room : goal.append_template-requires-clause-room
append_template-requires-clause-room c =
    let empty = ap length c.requires.empty in
    omega (arith, empty, length-v4_record)

pub append_template-requires-2-clause-room : goal.append_template-requires-2-clause-room
append_template-requires-2-clause-room c =
    let empty = ap length c.requires.empty in
    let one = longer_by-v4 c.append_u16-2.new.buffer.items c.append_template.new.buffer.items
    c.append_template.ensures.items in
    omega (arith, empty, one, length-v6_record)

pub append_template-requires-3-clause-room : goal.append_template-requires-3-clause-room
append_template-requires-3-clause-room c =
    let empty = ap length c.requires.empty in
    let one = longer_by-v4 c.append_u16-2.new.buffer.items c.append_template.new.buffer.items
    c.append_template.ensures.items in
    let two = longer_by-v6 c.append_template.new.buffer.items c.append_template-2.new.buffer.items
    c.append_template-2.ensures.items in
    omega (arith, empty, one, two, length-v4_bi_record)

pub append_template-requires-4-clause-room : goal.append_template-requires-4-clause-room
append_template-requires-4-clause-room c =
    let empty = ap length c.requires.empty in
    let one = longer_by-v4 c.append_u16-2.new.buffer.items c.append_template.new.buffer.items
    c.append_template.ensures.items in
    let two = longer_by-v6 c.append_template.new.buffer.items c.append_template-2.new.buffer.items
    c.append_template-2.ensures.items in
    let three = longer_by-v4_bi c.append_template-2.new.buffer.items c.append_template-3.new.buffer.items
    c.append_template-3.ensures.items in
    omega (arith, empty, one, two, three, length-v6_bi_record)

pub returns : goal.returns
returns c =
    bi_template_message-written c.args.export_time _ _ _ _ _ _ _ _ c.requires.empty
    c.append_message_header.ensures.items c.append_u16.ensures.items
    c.append_u16-2.ensures.items c.append_template.ensures.items c.append_template-2.ensures.items
    c.append_template-3.ensures.items
    c.append_template-4.ensures.items
