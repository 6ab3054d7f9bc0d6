use Rattle.std.proofs.Common.{arith, ap, length, ◌∙◌, length-append}
use Rattle.ipfix_model.specs.Templates.{v4_template, v4_fields}
use Rattle.ipfix_writer.specs.Encoding.{template_record}
use Rattle.ipfix_writer.proofs.Templates.{length-v4_record, length-v6_record, template_message-written}
use Rattle.ipfix_writer.proofs.message.encode_template_message.Goals as goal

pub append_template-requires-clause-room : goal.append_template-requires-clause-room
append_template-requires-clause-room c = omega (arith, length-v4_record)

pub append_template-requires-2-clause-room : goal.append_template-requires-2-clause-room
append_template-requires-2-clause-room c =
    let first = ap length c.append_template.ensures.items
    ∙ length-append c.append_u16-2.new.buffer.items (template_record v4_template v4_fields) in
    omega (arith, length-v4_record, length-v6_record, first)

pub returns-clause-items : goal.returns-clause-items
returns-clause-items c =
    template_message-written c.args.export_time _ _ _ _ _ _ c.clear.ensures.items c.append_message_header.ensures.items
    c.append_u16.ensures.items
    c.append_u16-2.ensures.items c.append_template.ensures.items c.append_template-2.ensures.items
