use Rattle.std.proofs.Common.{◌≡◌, None}
use Rattle.cache_watch.specs.Watching.{IsOf, held_by, note_of}
use Rattle.bench_checks.proofs.asking.ask.Given as goal

abbrev pub invariant-loop-turn : goal.invariant-loop-turn
invariant-loop-turn l = record {
  of : IsOf l.cache l.watcher;
  idle : held_by l.watcher ≡ None;
  seats : (note_of l.watcher).seats ≡ (note_of l.initial.watcher).seats;
}
