use Rattle.std.proofs.Common.{◌<◌, ◌%◌, ◌∙◌, sym, length, mod-lt, rules}
use Rattle.std.proofs.lemmas.List.Elements.{All-push, All-same}
use Rattle.cache_watch.specs.Watching.{note_of}
use Rattle.watch_program.specs.Answers.{IsSound}
use Rattle.watch_program.proofs.Seen.{asker-still, seen-still, some-there}
use Rattle.watch_program.proofs.Turns.{next-in-turn}
use Rattle.watch_program.proofs.asking.ask_in_turn.Goals as goal

pub loop-k-preserved : goal.loop-k-preserved
loop-k-preserved g c =
    let before = c.loop-k.invariant in
    let some : 0 < length c.args.keys.now = some-there (length c.args.keys.now)
    (sym c.is_empty.ensures ∙ c.if-is_empty.false) in
    let below : c.loop-k.k % length c.args.keys.now < length c.args.keys.now = mod-lt c.loop-k.k some in
    record {
      of = c.ask-answer.ensures.of;
      idle = c.ask-answer.ensures.idle;
      asker = asker-still c.ask-answer.result (note_of c.loop-k.watcher) (note_of c.ask-answer.new.watcher) before.asker
          c.ask-answer.ensures.note;
      seen = seen-still c.ask-answer.result (note_of c.loop-k.watcher) (note_of c.ask-answer.new.watcher)
          c.loop-k.answers.items c.push.new.self.items c.ask-answer.ensures.note before.seen c.in_ok-push.ensures.items;
      many = search rules;
      sound = All-same IsSound _ _ c.in_ok-push.ensures.items
          (All-push IsSound c.loop-k.answers.items c.ask-answer.result before.sound c.ask-answer.ensures.sound);
      in_turn = next-in-turn c.args.keys.now c.loop-k.answers.items c.push.new.self.items c.ask-answer.result
          c.index-keys-k.result c.loop-k.k before.many
          c.index-keys-k.is below c.ask-answer.ensures.key c.in_ok-push.ensures.items before.in_turn;
    }
