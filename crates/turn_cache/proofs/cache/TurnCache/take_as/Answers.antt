use Rattle.std.proofs.Common.{◌*◌, ◌+◌, eqb, sym, subst, arith}
use mathlib.Core.Option.{none}
use Rattle.atomic_table.specs.Table.{step, Allows}
use prog.Atomic.{either}
use Rattle.turn_cache.specs.Ruled.{Ruled}
use Rattle.turn_cache.specs.Moves.{Move, Takes}
use Rattle.turn_cache.proofs.TakeStep.{takes}
use Rattle.turn_cache.proofs.cache.TurnCache.take_as.Goals as goal

pub compare_exchange-requires : goal.compare_exchange-requires
compare_exchange-requires g c =
    let cache = c.args.self.now in (
      c.requires.at,
      (let w = cache.counted in let s = c.requires.set in omega (arith, w, s)),
      subst (λ (m : Move). Allows (Ruled cache.table.shared.key) cache.table.shared.table_id.slots c.args.seat.now.id
          c.args.seat.now.me (64 * c.args.set) (λ n. either (eqb n 0) (c.args.number + 1) n)
          (Takes m (step cache.table.shared.table_id.slots (64 * c.args.set) 0 (c.args.number + 1) none)
          c.args.seat.now.me)) (sym c.requires.about)
          (takes cache.table.shared.key _ _ c.args.number c.args.set cache.seats c.args._own.now
          c.args._last c.args.seat.now.me (sym cache.told.1) c.requires.idle.0 c.requires.idle.1 c.requires.idle.2
          (let t = cache.told.0 in let s = c.requires.set in omega (arith, t, s))
          c.requires.own),
    )
