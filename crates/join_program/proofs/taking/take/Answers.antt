-- One more record.
use Rattle.std.proofs.Common.{◌∙◌, sym, refl}
use Rattle.join_program.specs.Taking.{share_of}
use Rattle.join_program.proofs.OneMore.{left_out, taken_in}
use Rattle.join_program.proofs.taking.take.Goals as goal

pub returns-then-not-falls_to-clause-taken : goal.returns-then-not-falls_to-clause-taken
returns-then-not-falls_to-clause-taken c = λ flows taken.
    left_out (share_of c.args.share) flows c.args.flow.now c.args.taken.now _ c.unwrap_or.result c.max.result
    c.unwrap_or.ensures c.max.ensures refl taken
    (sym c.falls_to.ensures ∙ c.if-not-falls_to.true) refl refl refl

pub returns-clause-taken : goal.returns-clause-taken
returns-clause-taken c = λ flows taken.
    taken_in (share_of c.args.share) flows c.args.flow.now c.args.taken.now _ c.unwrap_or.result c.max.result
    c.unwrap_or.ensures c.max.ensures refl taken
    (sym c.falls_to.ensures ∙ c.if-not-falls_to.false) c.in_ok-add_part.ensures
    c.in_ok-packets.ensures.sum c.in_ok-packets.ensures.fits c.in_ok-octets.ensures.sum c.in_ok-octets.ensures.fits
