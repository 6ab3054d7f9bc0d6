use Rattle.std.proofs.Common.{arith}
use Rattle.ipfix_writer.proofs.Filling.{alone-fits}
use Rattle.ipfix_writer.proofs.stream.layout.Goals as goal

pub append_messages-requires-clause-alone : goal.append_messages-requires-clause-alone
append_messages-requires-clause-alone c = λ one. alone-fits c.args.size one (omega (arith, c.requires.0))
