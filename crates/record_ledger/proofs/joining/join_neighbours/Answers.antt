-- Each turn takes the next record into the stack.
use Rattle.std.proofs.Common.{◌<◌, ◌≤◌, ℕ, List, length, take, sym, ◌∙◌, arith}
use Rattle.std.proofs.Math.ListN.{length-set}
use Rattle.std.proofs.lemmas.List.{length-map}
use Rattle.flow_parts.specs.declared.fragment.Fragment.{Fragment}
use Rattle.record_ledger.specs.declared.record.FlowRecord.{FlowRecord}
use Rattle.record_ledger.specs.Lawful.{parts_of}
use Rattle.record_ledger.proofs.Stacking.{front_of, none_stacked, room_packets, room_octets, latest_beside, one_stacked}
use Rattle.record_ledger.proofs.Stacking.{all_stacked}
use Rattle.record_ledger.proofs.joining.join_neighbours.Goals as goal

pub loop-place-init : goal.loop-place-init
loop-place-init c =
    record {
      long = c.len-place-end.ensures ∙ c.args.records.now.ok.0;
      stacked =
          none_stacked c.args.timeouts.now c.args.records.now.items c.requires.sorted;
    }

pub settle-joined-requires-clause-packets : goal.settle-joined-requires-clause-packets
settle-joined-requires-clause-packets c =
    let X : List FlowRecord = c.loop-place.records.items in
    let low : c.loop-place.place < length X = (let long = c.loop-place.invariant.long in omega arith) in
    room_packets c.args.timeouts.now (parts_of c.args.records.now.items) X c.loop-place.apart c.loop-place.place
    c.loop-place.invariant.stacked
    c.index.result.now low c.index.ensures _
    (front_of X c.deref.result.now c.loop-place.apart c.deref.ensures.value) _ c.requires.packets

pub settle-joined-requires-clause-octets : goal.settle-joined-requires-clause-octets
settle-joined-requires-clause-octets c =
    let X : List FlowRecord = c.loop-place.records.items in
    let low : c.loop-place.place < length X = (let long = c.loop-place.invariant.long in omega arith) in
    room_octets c.args.timeouts.now (parts_of c.args.records.now.items) X c.loop-place.apart c.loop-place.place
    c.loop-place.invariant.stacked
    c.index.result.now low c.index.ensures _
    (front_of X c.deref.result.now c.loop-place.apart c.deref.ensures.value) _ c.requires.octets

pub settle-joined-requires-clause-latest : goal.settle-joined-requires-clause-latest
settle-joined-requires-clause-latest c =
    let X : List FlowRecord = c.loop-place.records.items in
    let low : c.loop-place.place < length X = (let long = c.loop-place.invariant.long in omega arith) in
    latest_beside c.args.timeouts.now (parts_of c.args.records.now.items) X c.loop-place.apart c.loop-place.place
    c.loop-place.invariant.stacked
    c.index.result.now low c.index.ensures _ (front_of X c.deref.result.now c.loop-place.apart c.deref.ensures.value)

pub loop-place-preserved : goal.loop-place-preserved
loop-place-preserved c =
    let X : List FlowRecord = c.loop-place.records.items in
    let settled = c.settle-joined.ensures in
    let low : c.loop-place.place < length X = (let long = c.loop-place.invariant.long in omega arith) in
    let S : List Fragment = parts_of (take c.loop-place.apart c.deref.result.now) in
    let n : ℕ = c.settle-joined.result.left in
    let le : n ≤ length S =
    (let few = settled.left in
    omega (arith, length-map (take c.loop-place.apart c.deref.result.now) (λ (r : FlowRecord). r.part))) in
    record {
      long = c.loop-place.invariant.long ∙ sym (length-set X n _);
      stacked = one_stacked c.args.timeouts.now
          (parts_of c.args.records.now.items) X c.loop-place.apart c.loop-place.place c.loop-place.invariant.stacked
          c.index.result.now low c.index.ensures S
          (front_of X c.deref.result.now c.loop-place.apart c.deref.ensures.value)
          _ n le settled.reached settled.key settled.last settled.apart settled.comes;
    }

pub returns-clause-reached : goal.returns-clause-reached
returns-clause-reached c =
    (all_stacked c.args.timeouts.now (parts_of c.args.records.now.items) c.loop-place.records.items
    c.truncate.new.self.items c.loop-place.apart c.loop-place.place
    c.loop-place.invariant.stacked (let long = c.loop-place.invariant.long in omega arith) c.truncate.ensures.items).0

pub returns-clause-sorted : goal.returns-clause-sorted
returns-clause-sorted c =
    (all_stacked c.args.timeouts.now (parts_of c.args.records.now.items) c.loop-place.records.items
    c.truncate.new.self.items c.loop-place.apart c.loop-place.place
    c.loop-place.invariant.stacked (let long = c.loop-place.invariant.long in omega arith) c.truncate.ensures.items).1

pub returns-clause-apart : goal.returns-clause-apart
returns-clause-apart c =
    (all_stacked c.args.timeouts.now (parts_of c.args.records.now.items) c.loop-place.records.items
    c.truncate.new.self.items c.loop-place.apart c.loop-place.place
    c.loop-place.invariant.stacked (let long = c.loop-place.invariant.long in omega arith) c.truncate.ensures.items).2

pub returns-clause-joined : goal.returns-clause-joined
returns-clause-joined c =
    (all_stacked c.args.timeouts.now (parts_of c.args.records.now.items) c.loop-place.records.items
    c.truncate.new.self.items c.loop-place.apart c.loop-place.place
    c.loop-place.invariant.stacked (let long = c.loop-place.invariant.long in omega arith) c.truncate.ensures.items).3
