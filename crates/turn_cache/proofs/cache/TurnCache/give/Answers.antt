use Rattle.std.proofs.Common.{arith}
use Rattle.turn_cache.proofs.GiveStep.{gives}
use Rattle.turn_cache.proofs.cache.TurnCache.give.Goals as goal

pub store-requires : goal.store-requires
store-requires c =
    let cache = c.args.self.now in (
      c.requires.at,
      (let w = cache.counted in let s = c.requires.below in omega (arith, w, s)),
      gives cache.table.shared.key _ _ c.args.set c.requires.written.0 c.requires.written.1 c.args.seat.now.me
          c.requires.written.2
          (let t = cache.told.0 in let s = c.requires.below in omega (arith, t, s)),
    )
