use Rattle.std.proofs.Common.{sym, subst}
use Rattle.pebr_roots.specs.Under.{AreUnder}
use Rattle.pebr_roots.proofs.Passing.{under_checked}
use Rattle.pebr_roots.specs.Passes.{known_by_pass}
use Rattle.pebr_roots.proofs.pass.Roots.check.Goals as goal

pub invariant_of-pass : goal.invariant_of-pass
invariant_of-pass g c =
    let pass = c.args.pass.now in
    record {
      slots = subst (AreUnder pass.under) (sym c.check.ensures.known)
          (under_checked pass.under c.check.result (known_by_pass pass) pass.slots);
    }
