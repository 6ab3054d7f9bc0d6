-- The fragments are dealt, the buckets are settled, and all records are put into the written order.
use Rattle.std.proofs.Common.{◌<◌, ◌^◌, sum_by, sym, subst, arith}
use Rattle.std.proofs.lemmas.Result.{IfOk-weaker}
use Rattle.flow_parts.specs.declared.fragment.Fragment.{Fragment}
use Rattle.record_ledger.specs.Buckets.{records_of, places_of}
use Rattle.record_ledger.specs.Gathered.{IsGathered}
use Rattle.record_ledger.specs.Lawful.{parts_of}
use Rattle.record_ledger.proofs.Gathered.{by_own_clock}
use Rattle.record_ledger.proofs.Matched.{lawful_are_sessions}
use Rattle.record_ledger.proofs.Settled.{both_ok}
use Rattle.record_ledger.proofs.Staying.{first, first_unlike, first_below, no_more, regrouped_all, lawful_all, gathered_all}
use Rattle.record_ledger.proofs.gathering.gather.Goals as goal

pub settle_all-requires-clause-packets : goal.settle_all-requires-clause-packets
settle_all-requires-clause-packets g c = λ κs within.
    let dealt = c.in_ok-pieces.ensures.dealt in
    subst (λ l. sum_by (λ (f : Fragment). f.packets) (parts_of (records_of l)) < 2 ^ 64) (sym c.deref_mut.ensures.value)
    (let less = no_more (λ (f : Fragment). f.packets) c.args.parts dealt.alone
    (parts_of (records_of c.in_ok-pieces.field-0.buckets.items)) dealt.whole in
    omega (arith, less, c.requires.packets))

pub settle_all-requires-clause-octets : goal.settle_all-requires-clause-octets
settle_all-requires-clause-octets g c = λ κs within.
    let dealt = c.in_ok-pieces.ensures.dealt in
    subst (λ l. sum_by (λ (f : Fragment). f.octets) (parts_of (records_of l)) < 2 ^ 64) (sym c.deref_mut.ensures.value)
    (let less = no_more (λ (f : Fragment). f.octets) c.args.parts dealt.alone
    (parts_of (records_of c.in_ok-pieces.field-0.buckets.items)) dealt.whole in
    omega (arith, less, c.requires.octets))

pub in_order-requires-clause-places : goal.in_order-requires-clause-places
in_order-requires-clause-places g c = λ κs within.
    let F = first c.args.timeouts c.unwrap_or-clock.result c.args.parts c.in_ok-pieces.field-0.pieces
    (places_of c.in_ok-pieces.field-0.alone.items) c.in_ok-pieces.field-0.buckets c.deref_mut.result.now c.settle_all.new.buckets
    c.in_ok-pieces.ensures.dealt c.deref_mut.ensures.value c.settle_all.ensures in
    let unlike = first_unlike c.args.timeouts c.unwrap_or-clock.result c.args.parts c.in_ok-pieces.field-0.pieces
    (places_of c.in_ok-pieces.field-0.alone.items) c.in_ok-pieces.field-0.buckets c.deref_mut.result.now c.settle_all.new.buckets
    c.in_ok-pieces.ensures.dealt c.deref_mut.ensures.value c.settle_all.ensures in
    (F.0, F.1, unlike)

pub in_order-requires-clause-below : goal.in_order-requires-clause-below
in_order-requires-clause-below g c = λ κs within. first_below c.args.timeouts c.unwrap_or-clock.result c.args.parts
    c.in_ok-pieces.field-0.pieces (places_of c.in_ok-pieces.field-0.alone.items) c.in_ok-pieces.field-0.buckets
    c.deref_mut.result.now c.settle_all.new.buckets c.in_ok-pieces.ensures.dealt c.deref_mut.ensures.value
    c.settle_all.ensures

pub returns-clause-regroups : goal.returns-clause-regroups
returns-clause-regroups g c = IfOk-weaker c.in_order.result _ _ (λ L perm.
    regrouped_all c.args.timeouts c.unwrap_or-clock.result c.args.parts c.in_ok-pieces.field-0.pieces
    (places_of c.in_ok-pieces.field-0.alone.items) c.in_ok-pieces.field-0.buckets c.deref_mut.result.now c.settle_all.new.buckets
    c.in_ok-pieces.ensures.dealt c.deref_mut.ensures.value c.settle_all.ensures L perm)
    c.in_order.ensures.permutation

pub returns-clause-lawful_by : goal.returns-clause-lawful_by
returns-clause-lawful_by g c =
    both_ok c.in_order.result c.in_order.ensures.permutation c.in_order.ensures.order (λ L perm sorted packets shares.
    lawful_all c.args.timeouts c.unwrap_or-clock.result c.args.parts c.in_ok-pieces.field-0.pieces
    (places_of c.in_ok-pieces.field-0.alone.items) c.in_ok-pieces.field-0.buckets c.deref_mut.result.now c.settle_all.new.buckets
    c.in_ok-pieces.ensures.dealt c.deref_mut.ensures.value c.settle_all.ensures L c.args.clock c.unwrap_or-clock.ensures
    perm sorted packets shares)

pub returns-clause-lawful : goal.returns-clause-lawful
returns-clause-lawful g c = IfOk-weaker c.in_order.result _ _ (λ L lawful packets shares at.
    (by_own_clock c.args.timeouts packets c.args.clock L at).0 (lawful packets shares)) (returns-clause-lawful_by g c)

pub returns-clause-sessions : goal.returns-clause-sessions
returns-clause-sessions g c = IfOk-weaker c.in_order.result _ _ (λ L lawful packets shares at sessions is uncut.
    lawful_are_sessions c.args.timeouts packets sessions is uncut L (lawful packets shares at))
    (returns-clause-lawful g c)

pub returns-clause-gathered : goal.returns-clause-gathered
returns-clause-gathered g c =
    both_ok c.in_order.result c.in_order.ensures.order c.in_order.ensures.by_key (λ L sorted by_key.
    subst (λ n. IsGathered c.args.timeouts n c.args.parts L) c.unwrap_or-clock.ensures
    (gathered_all c.args.timeouts c.unwrap_or-clock.result c.args.parts c.in_ok-pieces.field-0.pieces
    (places_of c.in_ok-pieces.field-0.alone.items) c.in_ok-pieces.field-0.buckets c.deref_mut.result.now c.settle_all.new.buckets
    c.in_ok-pieces.ensures.dealt c.deref_mut.ensures.value c.settle_all.ensures L sorted by_key))
