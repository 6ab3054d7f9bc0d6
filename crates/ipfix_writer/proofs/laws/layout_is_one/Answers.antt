use Rattle.ipfix_writer.specs.Encoding.{template_message}
use Rattle.ipfix_writer.specs.Layout.{encode_flow}
use Rattle.ipfix_writer.proofs.OneLayout.{stream-same}
use Rattle.ipfix_writer.proofs.laws.layout_is_one.Goals as goal

pub returns : goal.returns
returns c = λ size export_time flows one other a b. stream-same encode_flow size export_time
    (template_message export_time) flows one other a b
