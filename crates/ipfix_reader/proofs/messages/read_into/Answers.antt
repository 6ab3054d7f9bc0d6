-- From nothing that is read to what was read.
use Rattle.std.proofs.Common.{[]}
use Rattle.ipfix_reader.proofs.MessageSteps.{decode-read, decode-refused}
use Rattle.ipfix_reader.proofs.Takings.{when-ok, weaken-err}
use Rattle.ipfix_reader.proofs.messages.read_into.Goals as goal

pub returns-clause-taken : goal.returns-clause-taken
returns-clause-taken g c =
    when-ok c.read_messages.result _ _ (rw (c.new-table.ensures, c.new-sequences.ensures) at c.read_messages.ensures.ok)
    (λ read taken. let way = read [] taken in (way.0, way.1, decode-read _ _ way.2))

pub returns-clause-fault : goal.returns-clause-fault
returns-clause-fault g c =
    weaken-err c.read_messages.result _ _
    (rw (c.new-table.ensures, c.new-sequences.ensures) at c.read_messages.ensures.fault)
    (λ error fault taken. decode-refused _ error (fault [] taken))
