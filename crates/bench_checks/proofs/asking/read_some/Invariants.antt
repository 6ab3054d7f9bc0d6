use Rattle.std.proofs.Common.{◌≡◌}
use Rattle.cache_watch.specs.Watching.{IsOf, held_by, note_of}
use Rattle.bench_checks.proofs.asking.read_some.Given as goal

abbrev pub invariant-loop-turn : goal.invariant-loop-turn
invariant-loop-turn l = record {
  of : IsOf l.cache l.watcher;
  holding : held_by l.watcher ≡ held_by l.initial.watcher;
  seats : (note_of l.watcher).seats ≡ (note_of l.initial.watcher).seats;
}
