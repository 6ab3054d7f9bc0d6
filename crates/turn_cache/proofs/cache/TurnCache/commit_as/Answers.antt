use Rattle.flow_key.specs.Key.{set_number}
use Rattle.std.proofs.Common.{◌≡◌, rules, slice_index, ◌+◌, ◌*◌, sym, subst, arith, refl}
use Rattle.atomic_table.specs.Table.{Allows}
use Rattle.cache_face.specs.Choice.{Takes}
use Rattle.cache_face.specs.Keeping.{entry_of}
use Rattle.cache_choice.specs.Chosen.{out_of}
use Rattle.turn_cache.specs.Ruled.{Ruled}
use Rattle.turn_cache.specs.Moves.{Move, Commits}
use Rattle.turn_cache.proofs.CommitStep.{commits}
use Rattle.turn_cache.proofs.cache.TurnCache.commit_as.Goals as goal

pub store-requires : goal.store-requires
store-requires g c =
    let cache = c.args.self.now in
    let me = c.args.seat.now.me in (
      c.requires.at,
      (let w = cache.counted in let s = c.requires.below.0 in let p = c.requires.below.1 in omega (arith, w, s, p)),
      subst (λ (m : Move). Allows (Ruled cache.table.shared.key) cache.table.shared.table_id.slots c.args.seat.now.id me
          (64 * c.args.set + 16 + (10 * c.args.chosen.now.place + 5)) (λ _. slice_index c.args.chosen.now.words 5)
          (λ _. Commits m me))
          (sym c.requires.about)
          (commits cache.table.shared.key _ _ c.args.set c.args.chosen.now.place
          (slice_index c.args.chosen.now.words 5) c.args._own.now c.requires.kept.0
          (out_of c.args.chosen.now.how (entry_of c.args._old.now)) c.requires.read.0 c.args._old.now c.requires.read.1
          c.args.chosen.now.words me c.requires.reading
          (let t = cache.told.0 in let s = c.requires.below.0 in omega (arith, t, s)) c.requires.below.1
          c.requires.read.2 c.requires.read.3 (search rules) (search rules) refl
          c.requires.own (subst (λ n. set_number c.args._own.now.key n ≡ c.args.set) (sym cache.told.0)
          c.requires.of_set)
          c.requires.kept.1
          (subst (λ limits. Takes limits c.args._own.now (entry_of c.args._old.now)
          (out_of c.args.chosen.now.how (entry_of c.args._old.now)) c.requires.kept.0) (sym cache.told.2)
          c.requires.kept.2)),
    )
