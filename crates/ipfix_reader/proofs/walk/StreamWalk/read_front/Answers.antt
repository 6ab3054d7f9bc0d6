-- One whole message, with whatever follows it.
use Rattle.std.proofs.Common.{refl, sym, ap, ◌∙◌, subst}
use Rattle.ipfix_reader.specs.Messages.{stream_messages}
use Rattle.ipfix_reader.specs.Pieces.{WalkState, HasRead}
use Rattle.ipfix_reader.specs.Taking.{progress_of}
use Rattle.ipfix_reader.proofs.Items.{fault_of-same}
use Rattle.ipfix_reader.proofs.Pieces.{front-read, front-fault}
use Rattle.ipfix_reader.proofs.walk.StreamWalk.read_front.Goals as goal

pub returns-in-Ok-clause-taken : goal.returns-in-Ok-clause-taken
returns-in-Ok-clause-taken g c = λ front before read taken.
    let way = c.in-Ok.ensures.ok before taken in
    let walk : WalkState = record {
      templates = c.self.inside.table;
      sequences = c.self.inside.sequences;
      at = c.self.inside.at;
    } in (
      way.0,
      way.1,
      front-read walk front c.args.bytes.now c.args.size before c.requires.front
          (subst (HasRead front before) (sym c.self.view_is) read) _ way.0 refl
          (ap (λ l. stream_messages (progress_of walk.templates before walk.sequences)
          (record { at = walk.at; bytes = l }))
          (sym c.split_at.ensures.front) ∙ way.2),
    )

pub returns-in-Err-clause-fault : goal.returns-in-Err-clause-fault
returns-in-Err-clause-fault g c = λ front before read taken more.
    let walk : WalkState = record {
      templates = c.self.inside.table;
      sequences = c.self.inside.sequences;
      at = c.self.inside.at;
    } in
    front-fault walk front c.args.bytes.now c.args.size before c.requires.front
    (subst (HasRead front before) (sym c.self.view_is) read) _
    (fault_of-same _ _ _
    (ap (λ l. stream_messages (progress_of walk.templates before walk.sequences) (record { at = walk.at; bytes = l }))
    (sym c.split_at.ensures.front))
    (c.in-Err.ensures.fault before taken)) more
