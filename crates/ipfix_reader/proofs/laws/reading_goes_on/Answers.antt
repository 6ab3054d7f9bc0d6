-- The laws, as they are proved of the definitions.
use Rattle.ipfix_reader.specs.Records.{template_record, data_record}
use Rattle.ipfix_reader.specs.Sets.{message_set}
use Rattle.ipfix_reader.specs.Messages.{stream_message}
use Rattle.ipfix_reader.proofs.Items.{goes_on}
use Rattle.ipfix_reader.proofs.RecordSteps.{template_record-takes, data_record-takes}
use Rattle.ipfix_reader.proofs.SetSteps.{message_set-takes}
use Rattle.ipfix_reader.proofs.MessageSteps.{stream_message-takes}
use Rattle.ipfix_reader.proofs.laws.reading_goes_on.Goals as goal

pub returns : goal.returns
returns c = record {
  messages = goes_on stream_message stream_message-takes;
  sets = λ domain. goes_on (message_set domain) (message_set-takes domain);
  templates = λ options domain. goes_on (template_record options domain) (template_record-takes options domain);
  data_records = λ domain number fields before part some. goes_on (data_record domain number fields)
      (data_record-takes domain number fields some) before part;
}
