-- With a reverse flow the record is longer.
use Rattle.std.proofs.Common.{◌∙◌, ◌+◌, sym, ap, arith, length}
use Rattle.ipfix_writer.proofs.Sizes.{record_size-bounds}
use Rattle.pair_program.specs.BiLayout.{encode_both}
use Rattle.pair_program.proofs.BiRecords.{length-bi_record}
use Rattle.pair_program.proofs.encoding.BiflowEncode.size.Goals as goal
use Rattle.ipfix_model.specs.Sizes.{counts_length}

pub overflow_add-result : goal.overflow_add-result
overflow_add-result c = omega (arith, c.size-in-Some.ensures, record_size-bounds c.args.self.now.forward)

pub returns-in-Some : goal.returns-in-Some
returns-in-Some c =
    ap (λ n. n + counts_length) c.size-in-Some.ensures
    ∙ sym (length-bi_record c.args.self.now.forward c.in-Some.field-0)
    ∙ ap (λ r. length (encode_both c.args.self.now.forward r).records) (sym c.in-Some.is)
