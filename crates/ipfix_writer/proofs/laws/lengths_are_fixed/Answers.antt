use Rattle.std.proofs.Common.{◌∙◌, ◌+◌, ap}
use Rattle.ipfix_writer.specs.DataSizes.{length-data_record}
use Rattle.ipfix_writer.proofs.Sizes.{record_size-is}
use Rattle.ipfix_writer.proofs.Templates.{length-template_records, length-template_message}
use Rattle.ipfix_writer.proofs.laws.lengths_are_fixed.Goals as goal

pub returns : goal.returns
returns c = record {
  records = λ flow. length-data_record flow ∙ record_size-is flow;
  template_set = ap (λ n. 4 + n) length-template_records;
  template_message = length-template_message;
}
