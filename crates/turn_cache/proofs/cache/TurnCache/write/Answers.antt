use Rattle.std.proofs.Common.{◌∙◌, ap}
use Rattle.turn_cache.specs.Hands.{writing, idle}
use Rattle.turn_cache.specs.Moves.{Sat, at_turn}
use Rattle.turn_cache.proofs.cache.TurnCache.write.Goals as goal

pub write_rest-requires-clause-writing : goal.write_rest-requires-clause-writing
write_rest-requires-clause-writing c = ap (λ (m : Sat). m.0.turn) c.commit.ensures.commits

pub give-requires-clause-written : goal.give-requires-clause-written
give-requires-clause-written c =
    (c.args.chosen.now.place, c.args.chosen.now.words, ap (λ (m : Sat). m.0.turn) c.write_rest.ensures.written)

pub returns-clause-filled : goal.returns-clause-filled
returns-clause-filled c = c.give.ensures.gives
    ∙ (ap (λ (m : Sat). (at_turn idle m.0, m.1)) c.write_rest.ensures.written
    ∙ ap (λ (m : Sat). (
      at_turn idle (at_turn (writing c.args.set c.args.chosen.now.place c.args.chosen.now.words
          c.args.chosen.now.words) m.0),
      m.1,
    ))
    c.commit.ensures.commits)
