-- The order of records by first time, last time and key.
use Rattle.std.proofs.Common.{List, get_or, false, ◌≡◌, refl}
use Rattle.std.specs.Cmp.{IsTotalOrder, IsStrictWeakOrder}
use Rattle.std.specs.List.Sorted.{IsSorted}
use Rattle.std.specs.Ordering.{is_lt, ordering_then}
use Rattle.std.specs.declared.cmp.Ordering.{Ordering}
use Rattle.std.specs.declared.cmp.Ordering.TheVariants.{Less, Equal, Greater}
use Rattle.std.proofs.lemmas.Cmp.{nat_cmp_total, on_total, then_total}
use Rattle.std.proofs.lemmas.List.MinMax.{ranks_by}
use Rattle.std.proofs.lemmas.List.Sorted.{sorted_far}
use Rattle.flow_key.proofs.KeyOrder.{key_order_total}
use Rattle.record_ledger.proofs.Rising.{not_less}
use Rattle.record_ledger.specs.declared.record.FlowRecord.{FlowRecord}
use Rattle.pair_program.specs.Pairs.{by_start}
use Rattle.pair_program.specs.Chains.{RisesFrom}

pub by_start_total : IsTotalOrder by_start
by_start_total =
    then_total (on_total (λ (r : FlowRecord). r.part.first) nat_cmp_total)
    (then_total (on_total (λ (r : FlowRecord). r.part.last) nat_cmp_total)
    (on_total (λ (r : FlowRecord). r.part.key) key_order_total))

pub by_start_weak : IsStrictWeakOrder (λ (x y : FlowRecord). is_lt (by_start x y))
by_start_weak = ranks_by by_start_total (λ (r : FlowRecord). r)

first_not_less : (o p : Ordering) → is_lt (ordering_then o p) ≡ false → is_lt o ≡ false
first_not_less Less p is = is
first_not_less Equal p is = refl
first_not_less Greater p is = refl

-- so the first times rise
pub rises : (records : List FlowRecord) → IsSorted by_start records → RisesFrom records
rises records sorted i j d low inside =
    let far : is_lt (by_start (get_or records j d) (get_or records i d)) ≡ false =
    sorted_far (λ x y. is_lt (by_start x y)) by_start_weak records sorted i j d low inside in
    not_less (get_or records j d).part.first (get_or records i d).part.first (first_not_less _ _ far)
