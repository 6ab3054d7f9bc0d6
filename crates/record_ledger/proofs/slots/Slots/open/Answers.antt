-- Nothing is counted.
use Rattle.std.proofs.Common.{◌≡◌, ◌/◌, [], replicate, arith, subst, sym, ap, ◌∙◌, length}
use Rattle.std.proofs.lemmas.List.{length-replicate}
use Rattle.record_ledger.specs.Buckets.{CountsSlots, counts_of}
use Rattle.record_ledger.proofs.Packed.{none_counted, many_counts}
use Rattle.record_ledger.proofs.slots.Slots.open.Goals as goal

pub returns-clause-none : goal.returns-clause-none
returns-clause-none c =
    let clamp = c.clamp-slots.ensures in
    let items : c.in_ok-vec.field-0.items ≡ replicate (c.clamp-slots.result / 4) 0 =
    c.in_ok-vec.ensures.items_if_clones_equal (λ y h. h) in
    subst (λ l. CountsSlots [] (counts_of l)) (sym items)
    (none_counted (c.clamp-slots.result / 4) (omega (arith, clamp)))

pub returns-clause-many : goal.returns-clause-many
returns-clause-many c =
    let clamp = c.clamp-slots.ensures in
    let items : c.in_ok-vec.field-0.items ≡ replicate (c.clamp-slots.result / 4) 0 =
    c.in_ok-vec.ensures.items_if_clones_equal (λ y h. h) in
    let many = many_counts c.in_ok-vec.field-0.items in
    let long = ap length items ∙ length-replicate (c.clamp-slots.result / 4) 0 in
    omega (arith, many, long, clamp, c.saturating_mul.ensures)
