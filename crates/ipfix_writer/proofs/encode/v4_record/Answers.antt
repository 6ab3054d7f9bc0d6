-- One value behind the other.
use Rattle.std.proofs.Common.{◌∙◌, sym, arith}
use Rattle.ipfix_writer.proofs.Puts.{then-put, all-put}
use Rattle.ipfix_writer.proofs.Sizes.{data_record-v4, length-counts_part}
use Rattle.ipfix_writer.proofs.encode.v4_record.Goals as goal

pub returns : goal.returns
returns c =
    let flow = c.args.flow.now in
    let all = then-put c.put_u32.ensures.put (omega arith) (
    then-put c.put_u32-2.ensures.put (omega arith) (
    then-put c.put_u16.ensures.put (omega arith) (
    then-put c.put_u16-2.ensures.put (omega arith) (
    then-put c.put_u8.ensures.put (omega arith) c.put_counts.ensures.put)))) in
    all-put all (omega (arith, length-counts_part flow)) ∙ sym (data_record-v4 flow c.requires)
