use Rattle.pair_program.specs.BiLayout.{encode_biflow, bi_template_message}
use Rattle.ipfix_writer.proofs.OneLayout.{stream-same}
use Rattle.pair_program.proofs.BiStreams.{biflows-back}
use Rattle.pair_program.proofs.laws.bi_layout_reads_back.Goals as goal

pub returns : goal.returns
returns c = record {
  one = λ size export_time pairs one other a b. stream-same encode_biflow size export_time
      (bi_template_message export_time) pairs one other a b;
  back = biflows-back;
}
