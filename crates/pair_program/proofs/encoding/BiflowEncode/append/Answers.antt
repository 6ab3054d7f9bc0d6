-- The record of the forward flow, and then the values of the reverse one.
use Rattle.std.proofs.Common.{◌∙◌, ◌++◌, sym, ap, arith, length, append_assoc, length-append}
use Rattle.ipfix_writer.specs.Encoding.{data_record}
use Rattle.ipfix_writer.specs.DataParts.{counts_part}
use Rattle.pair_program.specs.BiLayout.{encode_both}
use Rattle.pair_program.proofs.BiRecords.{bi_record-parts, length-bi_record, forward_within}
use Rattle.pair_program.proofs.encoding.BiflowEncode.append.Goals as goal

pub append-requires : goal.append-requires
append-requires c = omega (arith, forward_within c.args.self.now.forward c.args.self.now.reverse)

pub append_counts-requires : goal.append_counts-requires
append_counts-requires c =
    let forward = c.args.self.now.forward in
    let long = ap length c.append.ensures.items ∙ length-append c.args.buffer.now.items (data_record forward) in
    let whole = ap (λ r. length (encode_both forward r).records) c.in-Some.is
    ∙ length-bi_record forward c.in-Some.reverse in
    omega (arith, long, whole)

pub returns-in-Some-clause-items : goal.returns-in-Some-clause-items
returns-in-Some-clause-items c =
    let forward = c.args.self.now.forward in
    let reverse = c.in-Some.reverse in
    c.append_counts.ensures.items ∙ ap (λ bs. bs ++ counts_part reverse) c.append.ensures.items
    ∙ append_assoc c.args.buffer.now.items (data_record forward) (counts_part reverse)
    ∙ ap (λ bs. c.args.buffer.now.items ++ bs)
    (sym (bi_record-parts forward reverse) ∙ ap (λ r. (encode_both forward r).records) (sym c.in-Some.is))
