use Rattle.std.proofs.Common.{◌*◌, ◌≡◌, ◌≢◌, ◌<◌, ◌≤◌, ◌++◌, None, replicate}
use Rattle.pebr_words.specs.Pasts.{was_ejected}
use Rattle.flow_cache.specs.Shown.{means_of}
use Rattle.cache_watch.specs.Watching.{IsOf, held_by, note_of, past_of, lost_of, operations_of}
use Rattle.pebr_roots.specs.Orders.{HasMade}
use Rattle.cache_watch.proofs.watcher.Watcher.hold.Given as goal

abbrev pub invariant-loop-turn : goal.invariant-loop-turn
invariant-loop-turn l = record {
  low : l._turn ≤ 3;
  of : IsOf l.cache l.self;
  idle : held_by l.self ≡ None;
  note : note_of l.self ≡ note_of l.initial.self;
  pins : (past_of l.initial.self).pins ≤ (past_of l.self).pins;
  lost : lost_of l.self ≡ replicate l._turn was_ejected ++ lost_of l.initial.self;
  few : HasMade (56 * l._turn) (operations_of l.initial.self) (operations_of l.self);
  others : 0 < l._turn → (means_of l.cache).seats ≢ 1;
}
