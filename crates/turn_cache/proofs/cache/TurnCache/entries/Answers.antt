use Rattle.std.proofs.Common.{◌++◌, ◌∙◌, List, ℕ, All, sym, subst}
use Rattle.std.specs.Slots.{slots_items}
use Rattle.flow_parts.specs.declared.fragment.Fragment.{Fragment}
use Rattle.flow_parts.specs.declared.timeouts.Timeouts.{Timeouts}
use Rattle.flow_parts.specs.Reaching.{Reaches}
use Rattle.cache_face.specs.Keeping.{parts_in, IsBorne}
use Rattle.pass_book.specs.Books.{Book}
use Rattle.pass_book.proofs.Besides.{ended, all_borne}
use Rattle.turn_cache.specs.Closing.{contents_at}
use Rattle.turn_cache.proofs.Closing.{closes, bears_out, if_ok, on_ok}
use Rattle.turn_cache.proofs.cache.TurnCache.entries.Goals as goal

pub returns : goal.returns
returns c =
    let final = c.close_with-closed.ensures.values.2 in
    let cache = c.args.self in
    let note = c.args.pass.seat.me.0.note in
    let book : Book = c.args.pass.book in
    let beside = c.requires.own.3 in
    let words : List ℕ = slots_items c.close_with-closed.result.words in
    let kept = closes cache.table.shared.key final.0 final.1.0 c.args.pass.seat.id c.args.pass.seat.me.0 final.1.1
    c.args.pass.no_turn (c.requires.all ∙ sym cache.told.1) in
    let kept' : Reaches cache.timeouts note.taken (parts_in (contents_at words cache.sets) ++ note.handed)
    = subst (λ (t : Timeouts). Reaches t note.taken (parts_in (contents_at words cache.sets) ++ note.handed))
    cache.told.2
    (subst (λ (n : ℕ). Reaches cache.table.shared.key.timeouts note.taken
    (parts_in (contents_at words n) ++ note.handed)) cache.told.0
    (subst (λ (ws : List ℕ). Reaches cache.table.shared.key.timeouts note.taken
    (parts_in (contents_at ws cache.table.shared.key.sets) ++ note.handed)) final.2 kept)) in
    let seen = bears_out cache.table.shared.key final.0 final.1.0 c.args.pass.seat.id c.args.pass.seat.me.0 final.1.1
    c.args.pass.no_turn (c.requires.all ∙ sym cache.told.1) in
    record {
      reached = if_ok c.fragments_in-entries.result _ _
          (λ parts is. subst (λ (ps : List Fragment). Reaches cache.timeouts book.taken (ps ++ book.handed))
          (sym is) (ended cache.timeouts note book (parts_in (contents_at words cache.sets)) beside kept')) c.fragments_in-entries.ensures;
      seen = on_ok c.fragments_in-entries.result _
          (all_borne cache.timeouts note book note.seen beside
          (subst (λ (t : Timeouts). All (IsBorne t note.taken) note.seen) cache.told.2 seen));
    }
