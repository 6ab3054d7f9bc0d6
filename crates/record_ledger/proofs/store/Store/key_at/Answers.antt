-- The key is that of what was looked up in a piece or a bucket.
use Rattle.std.proofs.Common.{◌∙◌}
use Rattle.record_ledger.proofs.Stored.{there, past, key_in_piece, key_in_bucket}
use Rattle.record_ledger.proofs.store.Store.key_at.Goals as goal

pub returns-in_ok-get-in-Some : goal.returns-in_ok-get-in-Some
returns-in_ok-get-in-Some c =
    let store = c.args.self.now in
    let place = c.args.place.now in
    let p = c.in-Some.piece.now in
    let f = c.in_ok-get-in-Some.field-0.now in
    key_in_piece store place p f
    (there c.deref.result.now store.pieces.items place.bucket p c.deref.ensures.value c.in-Some.ensures.lookup.0
    c.in-Some.ensures.lookup.1)
    (there c.deref-in-Some.result.now p.items place.at f c.deref-in-Some.ensures.value
    c.in_ok-get-in-Some.ensures.lookup.0 c.in_ok-get-in-Some.ensures.lookup.1)

pub returns-in_ok-get-in-None : goal.returns-in_ok-get-in-None
returns-in_ok-get-in-None c =
    let store = c.args.self.now in
    let place = c.args.place.now in
    let b = c.in_ok-bucket-in-None.bucket.now in
    let r = c.in_ok-get-in-None.field-0.now in
    key_in_bucket store place c.len.result b r (c.len.ensures ∙ store.pieces.ok.0)
    (past c.deref.result.now store.pieces.items place.bucket c.deref.ensures.value c.in-None.ensures.lookup.0)
    (there c.deref-in-None.result.now store.buckets.items _ b c.deref-in-None.ensures.value
    c.in_ok-bucket-in-None.ensures.lookup.0 c.in_ok-bucket-in-None.ensures.lookup.1)
    (there c.deref-in-None-2.result.now b.items place.at r c.deref-in-None-2.ensures.value
    c.in_ok-get-in-None.ensures.lookup.0 c.in_ok-get-in-None.ensures.lookup.1)
