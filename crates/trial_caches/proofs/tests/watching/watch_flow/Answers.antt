use Rattle.trial_caches.proofs.tests.watching.watch_flow.Goals as goal

pub hold-before-requires-clause-of : goal.hold-before-requires-clause-of
hold-before-requires-clause-of c = c.open-watcher.ensures.of c.args.cache.now c.requires.second.0
