-- What follows what was read, to the end.
use Rattle.std.proofs.Common.{sym, subst}
use Rattle.ipfix_reader.specs.Pieces.{WalkState, HasRead}
use Rattle.ipfix_reader.proofs.Pieces.{last-read, last-fault}
use Rattle.ipfix_reader.proofs.Takings.{when-ok, weaken-err}
use Rattle.ipfix_reader.proofs.walk.StreamWalk.read_last.Goals as goal

pub returns-clause-taken : goal.returns-clause-taken
returns-clause-taken g c = when-ok c.read_messages.result _ _ c.read_messages.ensures.ok
    (λ read front before known taken.
    let way = read before taken in
    let walk : WalkState = record {
      templates = c.self.inside.table;
      sequences = c.self.inside.sequences;
      at = c.self.inside.at;
    } in (
      way.0,
      way.1,
      last-read walk front c.args.bytes.now before _ (subst (HasRead front before) (sym c.self.view_is) known) way.2,
    ))

pub returns-clause-fault : goal.returns-clause-fault
returns-clause-fault g c = weaken-err c.read_messages.result _ _ c.read_messages.ensures.fault
    (λ error fault front before known taken.
    let walk : WalkState = record {
      templates = c.self.inside.table;
      sequences = c.self.inside.sequences;
      at = c.self.inside.at;
    } in
    last-fault walk front c.args.bytes.now before error (subst (HasRead front before) (sym c.self.view_is) known)
    (fault before taken))
