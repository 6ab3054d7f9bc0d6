-- Each turn copies one more fragment.
use Rattle.std.proofs.Common.{arith}
use Rattle.record_ledger.proofs.record_list.copy_parts.Goals as goal

pub part_at-requires : goal.part_at-requires
part_at-requires c =
    record { place = c.requires.places c.loop-at.at _ (omega (arith, c.loop-at-test.true, c.requires.many)) }

pub returns-clause-parts : goal.returns-clause-parts
returns-clause-parts c = λ k p r l.
    c.loop-at.invariant k r (omega (arith, l, c.loop-at-test.false, c.requires.many)) p
