use Rattle.cache_face.specs.Keeping.{entry_of}
use Rattle.cache_choice.specs.Chosen.{out_of}
use Rattle.turn_cache.specs.Moves.{writes_to}
use Rattle.turn_cache.proofs.cache.TurnCache.commit.Given as goal

abbrev pub ghosts-commit_as : goal.ghosts-commit_as
ghosts-commit_as a =
    record {
      about = writes_to a.set a.chosen.now.place a._own.now
          (out_of a.chosen.now.how (entry_of a._old.now)) a._old.now a.chosen.now.words;
    }
