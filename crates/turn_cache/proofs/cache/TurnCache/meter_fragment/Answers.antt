use Rattle.std.proofs.Common.{◌∙◌, sym, ap, subst, arith}
use Rattle.cache_face.specs.Laws.{CanTake}
use Rattle.cache_face.proofs.Keeping.{taken_is_small}
use Rattle.cache_face.specs.Notes.{Note}
use Rattle.pass_book.specs.Books.{Book, book_with, IsBeside}
use Rattle.pass_book.proofs.Besides.{beside_put, fewer}
use Rattle.turn_cache.proofs.cache.TurnCache.meter_fragment.Goals as goal

pub put_in-requires-clause-fragment : goal.put_in-requires-clause-fragment
put_in-requires-clause-fragment c =
    let note : Note = c.args.pass.now.seat.me.0.note in
    let few = fewer note c.args.pass.now.book c.requires.own.3 in
    let can : CanTake note c.args.part.now = record {
      single = c.requires.single;
      bounded = c.requires.octets;
      room = (let room = c.requires.room in omega (arith, few, room));
    } in record { can = can; small = taken_is_small note c.args.part.now can }

pub returns-clause-own : goal.returns-clause-own
returns-clause-own c =
    let own = c.put_in.ensures.own in
    let note : Note = c.args.pass.now.seat.me.0.note in
    let book : Book = c.args.pass.now.book in (
      own.0,
      own.1,
      own.2,
      subst (λ (b : Book). IsBeside c.put_in.new.pass.seat.me.0.note b)
          (sym (c.put.ensures
          ∙ ap (λ (b : Book). book_with b c.args.part.now c.put_in.new.metered.out) c.put_in.ensures.book))
          (subst (λ (n : Note). IsBeside n (book_with book c.args.part.now c.put_in.new.metered.out))
          (sym c.put_in.ensures.note)
          (beside_put note book c.args.part.now c.put_in.new.metered.out c.requires.own.3)),
    )
