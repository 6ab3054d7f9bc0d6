-- The two halves are permuted each by itself, and a range behind what brought its places into shorter ones.
use Rattle.std.proofs.lemmas.List.Sorted.{IsPermutation-append, IsPermutation-trans}
use Rattle.record_ledger.proofs.sorting.+ranges.Goals as goal

pub sort_in_turn-returns-else-starts-lt2-clause-permutation : goal.sort_in_turn-returns-else-starts-lt2-clause-permutation
sort_in_turn-returns-else-starts-lt2-clause-permutation t c =
    rw c.split_at_mut-low.ensures.value (IsPermutation-append _ _ _ _ c.sort_in_turn.ensures.permutation
    c.sort_in_turn-else-starts-lt2.ensures.permutation)

pub sort_range-returns-then-order-ge-SHORT_RANGES-clause-permutation :
    goal.sort_range-returns-then-order-ge-SHORT_RANGES-clause-permutation
sort_range-returns-then-order-ge-SHORT_RANGES-clause-permutation t c =
    IsPermutation-trans _ _ _ c.spread.ensures.permutation c.sort_in_turn.ensures.permutation
