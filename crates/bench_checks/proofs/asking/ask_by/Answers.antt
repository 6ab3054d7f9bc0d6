use Rattle.bench_checks.proofs.asking.ask_by.Goals as goal

pub ask-was_held-requires-clause-of : goal.ask-was_held-requires-clause-of
ask-was_held-requires-clause-of c = c.open-watcher.ensures.of c.args.cache.now c.requires.own

pub returns-clause-own : goal.returns-clause-own
returns-clause-own c = c.close-pass.ensures.of c.args.cache.now c.ask-was_held.ensures.of
