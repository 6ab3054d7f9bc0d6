use Rattle.std.proofs.Common.{sym, subst}
use Rattle.std.proofs.lemmas.List.Sorted.{IsPermutation-trans, IsNonDecreasingBy-from_sort}
use Rattle.pebr_slots.specs.Shown.{AreFalling}
use Rattle.pebr_slots.proofs.Listing.{falling_reversed}
use Rattle.pebr_slots.proofs.fresh.let_fall.Goals as goal

pub returns-clause-slots : goal.returns-clause-slots
returns-clause-slots c = IsPermutation-trans c.args.fresh.now.items c.sort_unstable.new.self.items
    c.reverse.new.self.items c.sort_unstable.ensures.permutation c.reverse.ensures.permutation

pub returns-clause-falling : goal.returns-clause-falling
returns-clause-falling c = subst AreFalling (sym c.reverse.ensures.items)
    (falling_reversed c.sort_unstable.new.self.items
    (IsNonDecreasingBy-from_sort (λ x. x) c.sort_unstable.new.self.items c.sort_unstable.ensures.sorted))
