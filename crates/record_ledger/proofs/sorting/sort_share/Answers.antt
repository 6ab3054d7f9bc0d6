-- The places are brought into ranges and these are permuted; the sort's comparison answers by the order of places.
use Rattle.std.proofs.Common.{rules, of_calls, subst, IsPermutation}
use Rattle.std.specs.Ordering.{is_lt}
use Rattle.std.proofs.lemmas.Fn.{always_returns_same}
use Rattle.std.proofs.lemmas.List.Sorted.{IsPermutation-trans}
use Rattle.record_ledger.specs.Buckets.{place_order}
use Rattle.record_ledger.specs.declared.place.Place.{Place}
use Rattle.record_ledger.proofs.Placed.{places_weak}
use Rattle.record_ledger.proofs.sorting.sort_share.Goals as goal
use Rattle.record_ledger.proofs.sorting.sort_share.Goals.{then-order-ge-FEW, else-order-ge-FEW}

pub returns-clause-order : goal.returns-clause-order
returns-clause-order c = c.sort_unstable_by.ensures.sorted
    (λ (x y : Place). is_lt (place_order c.args.store.now x y)) (places_weak c.args.store.now)
    (always_returns_same _ _ _ (λ a r f k. search (rules, of_calls)))

pub returns-clause-permutation : goal.returns-clause-permutation
returns-clause-permutation c = elim c.if-order-ge-FEW.branch [
  | then-order-ge-FEW w ↦ IsPermutation-trans _ _ _ w.spread.ensures.permutation
      (IsPermutation-trans _ _ _ w.sort_in_turn.ensures.permutation
      (subst (λ l. IsPermutation l c.sort_unstable_by.new.self) w.order-is c.sort_unstable_by.ensures.permutation))
  | else-order-ge-FEW w ↦
      subst (λ l. IsPermutation l c.sort_unstable_by.new.self) w.order-is c.sort_unstable_by.ensures.permutation
]
