use Rattle.std.proofs.Common.{length, replicate, sym, ap, ◌∙◌, subst}
use Rattle.std.specs.Prelude.{slice_set}
use Rattle.std.specs.Slots.{slots_items}
use Rattle.pebr_table.specs.Tables.{key_of, id_of, me_of}
use Rattle.pebr_words.specs.Making.{note_in}
use Rattle.pebr_words.specs.Opening.{rows_of}
use Rattle.pebr_words.specs.Closing.{contents_of_roots}
use Rattle.pebr_words.specs.Ruled.{BackedWhole}
use Rattle.pebr_words.proofs.Closing.{closes_at, roots_below, root_contents_length, if_ok}
use Rattle.pebr_words.proofs.words.Words.close.Goals as goal

pub root_contents-contents-requires-clause-below : goal.root_contents-contents-requires-clause-below
root_contents-contents-requires-clause-below g c =
    let words = c.args.self in
    let final = c.close-closed.ensures.values.2 in
    roots_below (g.P.RootProtocol.keeps (key_of words.table).fixed)
    (BackedWhole g.P.RootProtocol.whole (g.P.RootProtocol.backed (key_of words.table).fixed)) words.shape
    (key_of words.table).shape words.told (slots_items c.close-closed.result.words) final.0 final.1.0 final.2

pub returns-clause-length : goal.returns-clause-length
returns-clause-length g c =
    if_ok c.root_contents-contents.result (λ contents is. ap length is
    ∙ root_contents_length c.args.self.shape (slots_items c.close-closed.result.words)) c.root_contents-contents.ensures

pub returns-clause-keeps : goal.returns-clause-keeps
returns-clause-keeps g c =
    let words = c.args.self in
    let seat = c.args.seat in
    let keeps = g.P.RootProtocol.keeps (key_of words.table).fixed in
    let empty = g.P.RootProtocol.empty in
    let first = g.P.RootProtocol.first in
    let final = c.close-closed.ensures.values.2 in
    let whole = BackedWhole g.P.RootProtocol.whole (g.P.RootProtocol.backed (key_of words.table).fixed) in
    let kept = closes_at keeps whole words.shape (key_of words.table).shape empty first words.told
    (id_of seat.inner) (me_of seat.inner).0 (slots_items c.close-closed.result.words)
    c.requires.at.2 c.requires.whole c.requires.united final.0 final.1 final.2 in
    if_ok c.root_contents-contents.result
    (λ contents is. subst
    (λ items. keeps (rows_of words.shape items)
    (slice_set (replicate words.shape.seats empty) seat.number (note_in first (me_of seat.inner).0))) (sym is)
    (subst (λ n. keeps (rows_of words.shape
    (contents_of_roots words.shape (slots_items c.close-closed.result.words)))
    (slice_set (replicate words.shape.seats empty) n (note_in first (me_of seat.inner).0))) seat.acts kept))
    c.root_contents-contents.ensures
