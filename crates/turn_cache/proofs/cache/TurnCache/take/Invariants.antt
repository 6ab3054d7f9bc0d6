use Rattle.turn_cache.specs.Moves.{move_of_try}
use Rattle.turn_cache.proofs.cache.TurnCache.take.Given as goal

abbrev pub ghosts-take_as : goal.ghosts-take_as
ghosts-take_as a = record { about = move_of_try a.self.now.seats a.set a._own.now a._last }
