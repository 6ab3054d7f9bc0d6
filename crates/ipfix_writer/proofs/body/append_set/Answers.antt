use Rattle.std.proofs.Common.{arith, ◌++◌, ◌∙◌, ap, length, length-append, take, ◌+◌, ◌*◌}
use Rattle.ipfix_writer.specs.Layout.{records_in}
use Rattle.octets.specs.Numbers.{octets_of}
use Rattle.ipfix_writer.proofs.Sets.{first_set-of, first_set-lengths, first_set-written, longer_by}
use Rattle.ipfix_writer.proofs.body.append_set.Goals as goal

pub overflow_mul-size : goal.overflow_mul-size
overflow_mul-size g c =
    let first = first_set-of g.R.Encode.encode c.args.records.now c.index-records-0.result c.template-template.result
    c.run_length-count.result
    g.met.R.Encode.sized c.requires.some c.index-records-0.is c.template-template.ensures c.run_length-count.ensures in
    let lengths = first_set-lengths _ _ _ _ _ first in
    grind (arith, lengths, c.size.ensures)

pub overflow_add-size : goal.overflow_add-size
overflow_add-size g c =
    let first = first_set-of g.R.Encode.encode c.args.records.now c.index-records-0.result c.template-template.result
    c.run_length-count.result
    g.met.R.Encode.sized c.requires.some c.index-records-0.is c.template-template.ensures c.run_length-count.ensures in
    let lengths = first_set-lengths _ _ _ _ _ first in
    grind (arith, lengths, c.size.ensures)

pub append_u16-requires : goal.append_u16-requires
append_u16-requires g c =
    let first = first_set-of g.R.Encode.encode c.args.records.now c.index-records-0.result c.template-template.result
    c.run_length-count.result
    g.met.R.Encode.sized c.requires.some c.index-records-0.is c.template-template.ensures c.run_length-count.ensures in
    omega (arith, first_set-lengths _ _ _ _ _ first)

pub overflow_cast-size : goal.overflow_cast-size
overflow_cast-size g c =
    let first = first_set-of g.R.Encode.encode c.args.records.now c.index-records-0.result c.template-template.result
    c.run_length-count.result
    g.met.R.Encode.sized c.requires.some c.index-records-0.is c.template-template.ensures c.run_length-count.ensures in
    let lengths = first_set-lengths _ _ _ _ _ first in
    grind (arith, lengths, c.size.ensures)

pub append_u16-requires-2 : goal.append_u16-requires-2
append_u16-requires-2 g c =
    let first = first_set-of g.R.Encode.encode c.args.records.now c.index-records-0.result c.template-template.result
    c.run_length-count.result
    g.met.R.Encode.sized c.requires.some c.index-records-0.is c.template-template.ensures c.run_length-count.ensures in
    let lengths = first_set-lengths _ _ _ _ _ first in
    let longer = longer_by 2 c.template-template.result _ _ c.append_u16.ensures.items in
    omega (arith, lengths, longer)

pub append_data_records-requires : goal.append_data_records-requires
append_data_records-requires g c =
    let first = first_set-of g.R.Encode.encode c.args.records.now c.index-records-0.result c.template-template.result
    c.run_length-count.result
    g.met.R.Encode.sized c.requires.some c.index-records-0.is c.template-template.ensures c.run_length-count.ensures in
    let lengths = first_set-lengths _ _ _ _ _ first in
    let longer = longer_by 2 c.template-template.result _ _ c.append_u16.ensures.items in
    let longest = longer_by 2 _ _ _ c.append_u16-2.ensures.items in
    omega (arith, lengths, longer, longest, first.size_is)

pub returns : goal.returns
returns g c =
    let first = first_set-of g.R.Encode.encode c.args.records.now c.index-records-0.result c.template-template.result
    c.run_length-count.result
    g.met.R.Encode.sized c.requires.some c.index-records-0.is c.template-template.ensures c.run_length-count.ensures in
    let longer = longer_by 2 c.template-template.result _ _ c.append_u16.ensures.items in
    let longest = longer_by 2 _ _ _ c.append_u16-2.ensures.items in
    let whole = ap length c.append_data_records.ensures.items
    ∙ length-append c.append_u16-2.new.buffer.items
    (records_in g.R.Encode.encode (take c.run_length-count.result c.args.records.now)) in
    record {
      longer = omega (arith, longer, longest, whole);
      count = (first.some, first.within);
      items = first_set-written _ _ _ _ _ _ _ _ _ first c.append_u16.ensures.items
          (c.append_u16-2.ensures.items
          ∙ ap (λ n. c.append_u16.new.buffer.items ++ octets_of 2 (4 + c.run_length-count.result * n)) c.size.ensures)
          c.append_data_records.ensures.items;
      room = omega arith;
    }
