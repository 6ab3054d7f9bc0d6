use Rattle.std.proofs.Common.{sym, subst}
use Rattle.pebr_roots.specs.Under.{AreUnder}
use Rattle.pebr_roots.proofs.pass.Roots.unite.Goals as goal

pub invariant_of-result : goal.invariant_of-result
invariant_of-result g c =
    record { slots = subst (AreUnder c.args.first.under) (sym c.unite-seat.ensures.known) c.args.first.slots }
