-- The fragment stays, or is to be moved.
use Rattle.std.proofs.Common.{refl, sym, subst}
use Rattle.std.proofs.lemmas.Result.{on_ok_weaker}
use Rattle.record_ledger.specs.Buckets.{AreDealtTo, IsWay, share_of}
use Rattle.record_ledger.specs.declared.dealing.Dealing.{Dealing}
use Rattle.record_ledger.specs.declared.dealing.Way.TheVariants.{Stays, Moves}
use Rattle.record_ledger.proofs.Classed.{share_more}
use Rattle.record_ledger.proofs.Leaving.{one_left, one_moved, placed}
use Rattle.record_ledger.proofs.dealing.deal_part.Goals as goal

pub returns-in-Stays : goal.returns-in-Stays
returns-in-Stays c = on_ok_weaker c.list_part.result
    (λ k counts ends share pieces p before at_piece here way h.
    let f = c.args.part.now in
    let old = c.args.dealing.now in
    let new : Dealing = record { alone = c.list_part.new.places; moved = old.moved } in
    let is : IsWay counts ends share f Stays = subst (IsWay counts ends share f) c.in-Stays.is way in
    subst (λ l. AreDealtTo counts pieces l new) (sym (share_more ends share before f is.0))
    (one_left counts pieces (share_of ends share before) f old new k.0
    (placed pieces p f k.0 c.args.number c.args.at at_piece here k.2 k.3 k.4 k.5) h is.1 k.1 refl))
    c.list_part.ensures

pub returns-in-Moves : goal.returns-in-Moves
returns-in-Moves c = on_ok_weaker c.list_part-in-Moves.result
    (λ k counts ends share pieces p before at_piece here way h.
    let f = c.args.part.now in
    let old = c.args.dealing.now in
    let new : Dealing = record { alone = old.alone; moved = c.list_part-in-Moves.new.places } in
    let is : IsWay counts ends share f Moves = subst (IsWay counts ends share f) c.in-Moves.is way in
    subst (λ l. AreDealtTo counts pieces l new) (sym (share_more ends share before f is))
    (one_moved counts pieces (share_of ends share before) f old new k.0
    (placed pieces p f k.0 c.args.number c.args.at at_piece here k.2 k.3 k.4 k.5) h refl k.1))
    c.list_part-in-Moves.ensures
