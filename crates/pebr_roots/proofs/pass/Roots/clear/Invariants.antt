use Rattle.std.proofs.Common.{◌≡◌, ◌≤◌, ◌+◌, ◌<◌, ℕ}
use Rattle.pebr_core.specs.declared.kinds.ShieldAt.TheVariants as shield
use Rattle.pebr_core.specs.declared.kinds.Answer.TheVariants as answer
use Rattle.pebr_core.specs.State.{shield_at}
use Rattle.pebr_words.specs.Ruled.{IsSure}
use Rattle.pebr_roots.specs.Passes.{shape_at, known_by_pass, number_by, note_by, past_by, operations_by, IsSame}
use Rattle.std.specs.List.{range_with_len}
use Rattle.pebr_roots.specs.Orders.{AreMade, HasClearedOne}
use Rattle.pebr_roots.proofs.pass.Roots.clear.Given as goal

abbrev pub invariant-loop-place : goal.invariant-loop-place
invariant-loop-place g l = record {
  all : l.shields ≡ (shape_at l.self).shields;
  low : l.place ≤ l.shields;
  same : IsSame l.self l.initial.pass l.pass;
  note : note_by g.P.RootProtocol.first l.pass ≡ note_by g.P.RootProtocol.first l.initial.pass;
  known : known_by_pass l.pass ≡ record (known_by_pass l.initial.pass) { shields = (known_by_pass l.pass).shields };
  down : (k : ℕ) → k < l.place → shield_at (known_by_pass l.pass) k ≡ shield.Down;
  past : past_by l.pass ≡ record (past_by l.initial.pass) {
    last = (past_by l.pass).last;
    steps =
        (past_by l.initial.pass).steps + l.place;
  };
  operations : AreMade (HasClearedOne (shape_at l.self) (number_by l.initial.pass)) (range_with_len 0 l.place)
      (operations_by l.initial.pass) (operations_by l.pass);
  last : 0 < l.place → (past_by l.pass).last ≡ answer.Cleared;
  sure : 0 < l.place → IsSure g.P.RootProtocol.whole (shape_at l.self) (known_by_pass l.pass) (past_by l.pass);
}
