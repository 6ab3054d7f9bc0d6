use Rattle.std.proofs.Common.{◌≡◌, ◌∷◌, ◌++◌, ◌∙◌, ℕ, List, Option, Some, None, refl, sym, ap, arith}
use Rattle.std.specs.Prelude.{IsNone}
use Rattle.pebr_words.specs.Pasts.{Lost, was_ejected}
use Rattle.cache_watch.specs.Holding.{note_seen}
use Rattle.cache_watch.specs.Watching.{lost_of, note_of, operations_of}
use Rattle.cache_watch.proofs.Watches.{one_more, one_more_try, last_try}
use Rattle.cache_watch.proofs.watcher.Watcher.hold.Goals as goal

none_of : {A : Type 0} (o : Option A) → ((a : A) → o ≡ Some a → ⊥) → IsNone o
none_of None f = refl
none_of (Some a) f = absurd (f a refl)

pub loop-turn-preserved : goal.loop-turn-preserved
loop-turn-preserved c =
    let before = c.loop-turn.invariant in
    let start = c.args.self.now in
    let n : ℕ = c.loop-turn._turn in
    let none = c.ask.ensures.none (none_of c.ask.result c.in_default.not-Some) in
    record {
      low = omega (arith, c.loop-turn-test.true);
      of = c.ask.ensures.of;
      idle = none.0;
      note = c.ask.ensures.note ∙ ap (λ o. note_seen o (note_of c.loop-turn.self)) none.0 ∙ before.note;
      pins = (let a = c.ask.ensures.pins in let b = before.pins in omega (arith, a, b));
      lost = none.1 ∙ ap (λ (l : List Lost). was_ejected ∷ l) before.lost
          ∙ ap (λ (l : List Lost). l ++ lost_of start) (sym (one_more n));
      few = one_more_try n (operations_of start) (operations_of c.loop-turn.self)
          (operations_of c.ask.new.self) before.few
          c.ask.ensures.few;
      others = λ _. none.2;
    }

pub returns-in-Some-clause-few : goal.returns-in-Some-clause-few
returns-in-Some-clause-few c =
    last_try c.loop-turn._turn (operations_of c.args.self.now) (operations_of c.loop-turn.self)
    (operations_of c.ask.new.self) c.loop-turn-test.true c.loop-turn.invariant.few c.ask.ensures.few
