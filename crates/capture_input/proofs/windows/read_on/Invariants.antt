use Rattle.std.proofs.Common.{◌≡◌, ◌≤◌, ◌+◌, ◌-◌, ℕ, List, [], length, true, cond}
use Rattle.std.specs.Io.KnownBytes.{Consumes, IsAtEnd}
use Rattle.capture_input.proofs.windows.read_on.Given as goal

abbrev pub invariant-loop-input : goal.invariant-loop-input
invariant-loop-input g l = record {
  within : l.input.taken ≤ l.input.limit;
  limit : l.input.limit ≡ l.fn.input.limit;
  size : l.input.window.size ≡ l.fn.input.window.size;
  read : (got : List ℕ) × Consumes (g.S.Source.left l.initial.source) (g.S.Source.left l.source) got
      × (l.input.taken ≡ l.fn.input.taken + length got)
      × (l.fn.input.ended ≡ true → (got ≡ []) × (l.input.ended ≡ true));
  quiet : g.S.Source.faults l.source ≡ g.S.Source.faults l.initial.source;
  ended : l.input.ended ≡ true → IsAtEnd (g.S.Source.left l.source);
}

abbrev pub decreases-loop-input : goal.decreases-loop-input
decreases-loop-input g l = l.input.limit - l.input.taken + cond l.input.ended 0 1
