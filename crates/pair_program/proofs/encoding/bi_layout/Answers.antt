-- Each biflow fits a message.
use Rattle.pair_program.proofs.BiRecords.{biflow-fits}
use Rattle.pair_program.proofs.encoding.bi_layout.Goals as goal

pub append_messages-requires-clause-alone : goal.append_messages-requires-clause-alone
append_messages-requires-clause-alone c = λ pair. biflow-fits c.args.size pair c.requires.0
