use Rattle.std.proofs.Common.{◌∙◌, length, sym, ap, subst, arith, length-append}
use Rattle.cache_face.specs.Notes.{Note}
use Rattle.pass_book.specs.Books.{Book, merged_book, IsBeside}
use Rattle.pass_book.proofs.Besides.{beside_merged}
use Rattle.turn_cache.specs.Moves.{Sat}
use Rattle.turn_cache.proofs.Uniting.{joins}
use Rattle.turn_cache.proofs.cache.TurnCache.join.Goals as goal

pub join_seat-requires : goal.join_seat-requires
join_seat-requires c =
    let cache = c.args.self.now in (
      c.requires.first.0,
      c.requires.second.0,
      c.requires.second.1,
      (let w = cache.counted in let s = cache.sized.0 in omega (arith, w, s)),
      joins cache.table.shared.key _ c.args.first.seat.me.0 _ c.args.second.seat.me.0 c.args.first.no_turn
          c.args.second.no_turn,
    )

pub returns-clause-own : goal.returns-clause-own
returns-clause-own c =
    let me = c.join_seat.ensures.2 in
    let one : Book = c.args.first.book in
    let other : Book = c.args.second.book in
    let numbers = ap (λ (m : Sat). length m.0.numbers) me in
    let many = length-append c.args.first.seat.me.0.numbers c.args.second.seat.me.0.numbers in
    let some = c.requires.first.2 in (
      c.join_seat.ensures.0 ∙ c.requires.first.0,
      ap (λ (m : Sat). m.1) me ∙ c.requires.first.1,
      omega (arith, numbers, many, some),
      subst (λ (b : Book). IsBeside c.join_seat.new.seat.me.0.note b) (sym c.merge.ensures)
          (subst (λ (n : Note). IsBeside n (merged_book one other)) (sym (ap (λ (m : Sat). m.0.note) me))
          (beside_merged c.args.first.seat.me.0.note c.args.second.seat.me.0.note one other c.requires.first.3
          c.requires.second.3)),
    )
