use Rattle.std.proofs.Common.{sym, subst}
use Rattle.pass_book.specs.Books.{Book, IsBeside}
use Rattle.pass_book.proofs.Besides.{beside_passed}
use Rattle.turn_cache.proofs.cache.TurnCache.let_by.Goals as goal

pub returns-clause-own : goal.returns-clause-own
returns-clause-own c =
    let own = c.requires.own in (
      own.0,
      own.1,
      own.2,
      subst (λ (b : Book). IsBeside c.args.pass.now.seat.me.0.note b) (sym c.put.ensures)
          (beside_passed c.args.pass.now.seat.me.0.note c.args.pass.now.book c.args.fragment.now own.3),
    )
