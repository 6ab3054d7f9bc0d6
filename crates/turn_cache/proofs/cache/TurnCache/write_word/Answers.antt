use Rattle.turn_cache.proofs.cache.TurnCache.write_word.Goals as goal

pub store_word-requires-clause-writing : goal.store_word-requires-clause-writing
store_word-requires-clause-writing c =
    (c.requires.writing.0, c.requires.writing.1, c.requires.writing.2, c.requires.writing.4)

pub returns-then-value-stands-clause-written : goal.returns-then-value-stands-clause-written
returns-then-value-stands-clause-written c = λ new now is stands. c.store_word.ensures.stores new now is
