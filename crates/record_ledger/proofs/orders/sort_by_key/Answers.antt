-- The records are arranged, which permutes them, and the sort's comparison answers by the order of joining, which is
-- total.
use Rattle.std.proofs.Common.{rules, List, sym, subst, IsPermutation}
use Rattle.std.specs.Ordering.{is_lt}
use Rattle.std.proofs.lemmas.List.Sorted.{answers_always, IsPermutation-trans}
use Rattle.record_ledger.specs.declared.record.FlowRecord.{FlowRecord}
use Rattle.record_ledger.specs.Order.{joining_order}
use Rattle.record_ledger.proofs.Rising.{by_key_weak}
use Rattle.record_ledger.proofs.Settled.{given_back}
use Rattle.record_ledger.proofs.orders.sort_by_key.Goals as goal

pub returns-clause-order : goal.returns-clause-order
returns-clause-order c = c.sort_unstable_by.ensures.sorted
    (λ (x y : FlowRecord). is_lt (joining_order x.part y.part)) by_key_weak
    (answers_always _ _ _ (λ f a r f' called. search rules))

pub returns-clause-permutation : goal.returns-clause-permutation
returns-clause-permutation c =
    let old = c.args.records.now in
    let parts : List FlowRecord = c.arrange.new.records in
    let same = given_back old.len old.items c.as_mut_slice.result.now parts old.ok.0 c.as_mut_slice.ensures.value
    (sym c.arrange.ensures.many) in
    IsPermutation-trans old.items parts c.sort_unstable_by.new.self.items
    (subst (λ l. IsPermutation l parts) c.as_mut_slice.ensures.value c.arrange.ensures.permutation)
    (subst (λ l. IsPermutation l c.sort_unstable_by.new.self.items) same c.sort_unstable_by.ensures.permutation)
