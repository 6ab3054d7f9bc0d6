-- The law, as it is proved of the definitions.
use Rattle.ipfix_reader.proofs.Few.{decode-few}
use Rattle.ipfix_reader.proofs.laws.records_are_few.Goals as goal

pub returns : goal.returns
returns c = decode-few
