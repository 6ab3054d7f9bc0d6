-- Nothing is known.
use Rattle.std.proofs.Common.{[], sym, subst}
use Rattle.ipfix_reader.specs.Pieces.{HasRead}
use Rattle.ipfix_reader.proofs.Pieces.{nothing-read}
use Rattle.ipfix_reader.proofs.walk.StreamWalk.new.Goals as goal

pub returns : goal.returns
returns c = subst (λ sequences. HasRead [] [] (record { templates = c.new.result; sequences = sequences; at = 0 }))
    (sym c.new-2.ensures)
    (subst (λ templates. HasRead [] [] (record { templates = templates; sequences = []; at = 0 })) (sym c.new.ensures)
    nothing-read)
