use Rattle.std.proofs.Common.{ap, sym, ◌∙◌, arith}
use Rattle.turn_cache.specs.Moves as moves
use Rattle.turn_cache.proofs.StoreStep.{stores, written_is}
use Rattle.turn_cache.proofs.cache.TurnCache.store_word.Goals as goal

pub store-requires : goal.store-requires
store-requires c =
    let cache = c.args.self.now in (
      c.requires.at,
      (let w = cache.counted in let s = c.requires.below.0 in let p = c.requires.below.1 in
          let k = c.requires.below.2 in omega (arith, w, s, p, k)),
      stores cache.table.shared.key _ _ c.args.set c.args.place c.args.k c.args.value c.requires.writing.0
          c.requires.writing.1 c.args.seat.now.me c.requires.writing.2 (sym c.requires.writing.3)
          (let t = cache.told.0 in let s = c.requires.below.0 in omega (arith, t, s)) c.requires.below.1
          c.requires.below.2,
    )

pub returns-clause-stores : goal.returns-clause-stores
returns-clause-stores c = λ new now is. c.store.ensures.2
    ∙ ap (λ t. (moves.at_turn t c.args.seat.now.me.0, c.args.seat.now.me.1))
    (written_is c.args.set c.args.place c.args.k c.args.value new now c.args.seat.now.me.0.turn is)
