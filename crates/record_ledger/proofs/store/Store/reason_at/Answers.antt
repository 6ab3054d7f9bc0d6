-- The reason of a fragment alone, or that of the record which lies there.
use Rattle.std.proofs.Common.{◌≤◌, Some, length, ◌∙◌, sym, ap, arith, option_map}
use Rattle.record_ledger.specs.declared.record.FlowRecord.{FlowRecord}
use Rattle.record_ledger.proofs.Stored.{reason_there, record_there}
use Rattle.record_ledger.proofs.store.Store.reason_at.Goals as goal

pub returns-then-place-len : goal.returns-then-place-len
returns-then-place-len c =
    let store = c.args.self.now in
    reason_there store c.args.place.now c.requires.place c.args.part.now
    (omega (arith, c.if-place-len.true, c.len.ensures, store.pieces.ok.0)) c.requires.part
    ∙ ap Some (sym c.reason.ensures)

pub index-requires : goal.index-requires
index-requires c =
    let store = c.args.self.now in
    let behind : length store.pieces.items ≤ c.args.place.now.bucket =
    omega (arith, c.if-place-len.false, c.len.ensures, store.pieces.ok.0) in
    let v = record_there store c.args.place.now c.requires.place c.len-2.result (c.len-2.ensures ∙ store.pieces.ok.0)
    behind in
    omega (arith, v.0, store.buckets.ok.0)

pub index-requires-2 : goal.index-requires-2
index-requires-2 c =
    let store = c.args.self.now in
    let behind : length store.pieces.items ≤ c.args.place.now.bucket =
    omega (arith, c.if-place-len.false, c.len.ensures, store.pieces.ok.0) in
    let v = record_there store c.args.place.now c.requires.place c.len-2.result (c.len-2.ensures ∙ store.pieces.ok.0)
    behind in
    omega (arith, (v.1 c.index.result.now c.index.ensures).0, c.index.result.now.ok.0)

pub returns : goal.returns
returns c =
    let store = c.args.self.now in
    let behind : length store.pieces.items ≤ c.args.place.now.bucket =
    omega (arith, c.if-place-len.false, c.len.ensures, store.pieces.ok.0) in
    let v = record_there store c.args.place.now c.requires.place c.len-2.result (c.len-2.ensures ∙ store.pieces.ok.0)
    behind in
    ap (option_map (λ (r : FlowRecord). r.reason))
    ((v.1 c.index.result.now c.index.ensures).1 c.index-2.result.now c.index-2.ensures)
