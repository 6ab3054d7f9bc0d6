use Rattle.std.proofs.Common.{◌≡◌, None, All, length}
use Rattle.cache_watch.specs.Watching.{IsOf, held_by, note_of}
use Rattle.watch_program.specs.Answers.{IsSound, AreInTurn, IsAsker, held_in}
use Rattle.watch_program.proofs.asking.ask_in_turn.Given as goal

abbrev pub invariant-loop-k : goal.invariant-loop-k
invariant-loop-k g l = record {
  of : IsOf l.cache l.watcher;
  idle : held_by l.watcher ≡ None;
  asker : IsAsker (note_of l.watcher);
  seen : (note_of l.watcher).seen ≡ held_in l.answers.items;
  many : length l.answers.items ≡ l.k;
  sound : All IsSound l.answers.items;
  in_turn : AreInTurn l.keys l.answers.items;
}
