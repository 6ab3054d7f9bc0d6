use Rattle.std.proofs.Common.{◌+◌, ap}
use Rattle.pair_program.proofs.BiRecords.{length-bi_template_records, length-bi_template_message}
use Rattle.pair_program.proofs.laws.bi_lengths_are_fixed.Goals as goal

pub returns : goal.returns
returns c = record {
  template_set = ap (λ n. 4 + n) length-bi_template_records;
  template_message = length-bi_template_message;
}
