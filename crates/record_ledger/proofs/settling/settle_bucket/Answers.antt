-- The records are sorted, joined and given their reasons.
use Rattle.std.proofs.Common.{◌≡◌, List, [], length, drop, reverse, sym, ap, ◌∙◌, subst, arith}
use Rattle.std.specs.Prelude.{IsSorted}
use Rattle.std.specs.Ordering.{is_lt}
use Rattle.std.proofs.lemmas.List.{take_at, length-map}
use Rattle.std.proofs.lemmas.List.Sorted.{IsPermutation-map}
use Rattle.flow_parts.specs.Reaching.{Reaches}
use Rattle.flow_parts.specs.Reaching.Reaches.{moved, onward}
use Rattle.flow_parts.proofs.Reaching.{same_packets, same_octets}
use Rattle.record_ledger.specs.declared.record.FlowRecord.{FlowRecord}
use Rattle.record_ledger.specs.Gathered.{AllComeTo}
use Rattle.record_ledger.specs.Lawful.{parts_of}
use Rattle.record_ledger.specs.Order.{joining_order}
use Rattle.record_ledger.specs.Steps.{Rises, NotAfter, NoneJoinable}
use Rattle.record_ledger.specs.Buckets.{AreSettled}
use Rattle.record_ledger.proofs.Filtered.{NotLess}
use Rattle.record_ledger.proofs.Keyed.{part_of, rises_of_map, rises_weaker}
use Rattle.record_ledger.proofs.Placed.{sorted_from_rises}
use Rattle.record_ledger.proofs.Rising.{by_key_weak, joining_total, not_after, rises_from_sorted}
use Rattle.record_ledger.proofs.settling.settle_bucket.Goals as goal

-- the fragments of sorted records are in the order of joining
lined_up : (rs : List FlowRecord) → IsSorted (λ (one other : FlowRecord). joining_order one.part other.part) rs
    → Rises (NotLess joining_total) (parts_of rs)
lined_up rs up = rises_of_map part_of (NotLess joining_total) rs
    (rises_from_sorted (λ (r s : FlowRecord). is_lt (joining_order r.part s.part)) by_key_weak rs up)

pub join_neighbours-requires-clause-packets : goal.join_neighbours-requires-clause-packets
join_neighbours-requires-clause-packets c =
    let before : List FlowRecord = c.args.bucket.now.items in
    let sorted : List FlowRecord = c.sort_by_key.new.records.items in
    let same = same_packets c.args.timeouts.now (parts_of before) (parts_of sorted)
    (moved (parts_of before) (parts_of sorted)
    (IsPermutation-map part_of before sorted c.sort_by_key.ensures.permutation)) in
    omega (arith, same, c.requires.packets)

pub join_neighbours-requires-clause-octets : goal.join_neighbours-requires-clause-octets
join_neighbours-requires-clause-octets c =
    let before : List FlowRecord = c.args.bucket.now.items in
    let sorted : List FlowRecord = c.sort_by_key.new.records.items in
    let same = same_octets c.args.timeouts.now (parts_of before) (parts_of sorted)
    (moved (parts_of before) (parts_of sorted)
    (IsPermutation-map part_of before sorted c.sort_by_key.ensures.permutation)) in
    omega (arith, same, c.requires.octets)

pub join_neighbours-requires-clause-sorted : goal.join_neighbours-requires-clause-sorted
join_neighbours-requires-clause-sorted c = rises_weaker (NotLess joining_total) NotAfter not_after
    (parts_of c.sort_by_key.new.records.items)
    (lined_up c.sort_by_key.new.records.items c.sort_by_key.ensures.order)

pub returns : goal.returns
returns c =
    let limits = c.args.timeouts.now in
    let before : List FlowRecord = c.args.bucket.now.items in
    let sorted : List FlowRecord = c.sort_by_key.new.records.items in
    let joined = c.join_neighbours.new.records in
    let given : List FlowRecord = c.give_reasons.new.records in
    let same : parts_of given ≡ parts_of joined.items =
    c.give_reasons.ensures.parts ∙ ap parts_of c.deref_mut.ensures.value in
    let long : length given ≡ joined.len =
    (let a = joined.ok.0 in omega (
      arith,
      a,
      ap length same,
      length-map given part_of,
      length-map
          joined.items part_of,
    )) in
    subst (AreSettled limits c.args.clock before)
    (sym (take_at given (drop (length given) joined.items) joined.len long))
    (record {
      reached = subst (Reaches limits (parts_of before)) (sym same)
          (onward (parts_of before) (parts_of sorted) (parts_of joined.items)
          (moved (parts_of before) (parts_of sorted)
          (IsPermutation-map part_of before sorted c.sort_by_key.ensures.permutation))
          c.join_neighbours.ensures.reached);
      sorted = subst (Rises NotAfter) (sym same) c.join_neighbours.ensures.sorted;
      apart = subst (NoneJoinable limits) (sym same) c.join_neighbours.ensures.apart;
      reasons = c.give_reasons.ensures.reasons;
      joined = record {
        line = parts_of sorted;
        same = IsPermutation-map part_of before sorted c.sort_by_key.ensures.permutation;
        sorted = sorted_from_rises (λ f g. is_lt (joining_order f g)) (parts_of sorted)
            (lined_up sorted c.sort_by_key.ensures.order);
        joined = subst (λ fs. AllComeTo limits [] (parts_of sorted) (reverse fs)) (sym same)
            c.join_neighbours.ensures.joined;
      };
    })
