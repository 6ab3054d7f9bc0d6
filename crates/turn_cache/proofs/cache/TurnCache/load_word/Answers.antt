use Rattle.std.proofs.Common.{arith}
use Rattle.turn_cache.proofs.LoadStep.{loads}
use Rattle.turn_cache.proofs.cache.TurnCache.load_word.Goals as goal

pub load-requires : goal.load-requires
load-requires c =
    let cache = c.args.self.now in (
      c.requires.at,
      (let w = cache.counted in let s = c.requires.below.0 in let k = c.requires.below.1 in omega (arith, w, s, k)),
      loads cache.table.shared.key _ _ c.args.set c.args.k c.args.seat.now.me c.requires.reading.0 c.requires.reading.1
          (let t = cache.told.0 in let s = c.requires.below.0 in omega (arith, t, s)) c.requires.below.1,
    )
