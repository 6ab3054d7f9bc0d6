-- The fragment is that of the record which lies there.
use Rattle.std.proofs.Common.{◌∙◌, ap, option_map}
use Rattle.record_ledger.specs.declared.record.FlowRecord.{FlowRecord}
use Rattle.record_ledger.proofs.Stored.{there, past, part_there, record_there}
use Rattle.record_ledger.proofs.store.Store.part_at.Goals as goal

pub returns-in-Some : goal.returns-in-Some
returns-in-Some c =
    let store = c.args.self.now in
    let place = c.args.place.now in
    let p = c.in-Some.piece.now in
    (part_there store place c.requires.place p
    (there c.deref.result.now store.pieces.items place.bucket p c.deref.ensures.value c.in-Some.ensures.lookup.0
    c.in-Some.ensures.lookup.1)).1 c.index.result.now c.index.ensures

pub returns-in-None : goal.returns-in-None
returns-in-None c =
    let store = c.args.self.now in
    let place = c.args.place.now in
    let behind = past c.deref.result.now store.pieces.items place.bucket c.deref.ensures.value
    c.in-None.ensures.lookup.0 in
    let v = record_there store place c.requires.place c.len.result (c.len.ensures ∙ store.pieces.ok.0) behind in
    ap (option_map (λ (r : FlowRecord). r.part))
    ((v.1 c.index-in-None.result.now c.index-in-None.ensures).1 c.index-in-None-2.result.now c.index-in-None-2.ensures)
