-- The sort's comparison answers by the order, which is total.
use Rattle.std.proofs.Common.{rules}
use Rattle.std.specs.Ordering.{is_lt}
use Rattle.std.proofs.lemmas.List.Sorted.{answers_always}
use Rattle.record_ledger.specs.declared.record.FlowRecord.{FlowRecord}
use Rattle.pair_program.specs.Pairs.{by_start}
use Rattle.pair_program.proofs.Order.{by_start_weak}
use Rattle.pair_program.proofs.pairing.in_order.Goals as goal

pub returns-clause-sorted : goal.returns-clause-sorted
returns-clause-sorted c =
    c.in_ok-sort_by.ensures.sorted (λ (x y : FlowRecord). is_lt (by_start x y)) by_start_weak
    (answers_always _ _ _ (λ f a r f' called. search rules))

pub returns-clause-stable : goal.returns-clause-stable
returns-clause-stable c = λ x.
    c.in_ok-sort_by.ensures.stable (λ (x y : FlowRecord). is_lt (by_start x y)) by_start_weak
    (answers_always _ _ _ (λ f a r f' called. search rules)) x
