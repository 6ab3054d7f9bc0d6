-- The laws, as they are proved of the definitions.
use Rattle.packet_accept.proofs.FileAnswers.{answer-placed, answers_count, packets_next, packets_all, packets_together}
use Rattle.packet_accept.proofs.FileAnswers.{packets_permuted}
use Rattle.packet_accept.proofs.laws.packets_law.Goals as goal

pub returns-clause-count : goal.returns-clause-count
returns-clause-count c = answers_count

pub returns-clause-place : goal.returns-clause-place
returns-clause-place c = answer-placed

pub returns-clause-next : goal.returns-clause-next
returns-clause-next c = packets_next

pub returns-clause-all : goal.returns-clause-all
returns-clause-all c = packets_all

pub returns-clause-together : goal.returns-clause-together
returns-clause-together c = packets_together

pub returns-clause-permuted : goal.returns-clause-permuted
returns-clause-permuted c = packets_permuted
