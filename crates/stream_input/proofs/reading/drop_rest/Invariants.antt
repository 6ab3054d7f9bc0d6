-- What came so far, and how much may still come.
use Rattle.std.proofs.Common.{◌≡◌, ◌+◌, ◌<◌, ◌≤◌, List, ℕ, length}
use Rattle.std.specs.Io.KnownBytes.{Consumes}
use Rattle.stream_input.proofs.reading.drop_rest.Given as goal

abbrev pub invariant-rest : goal.invariant-rest
invariant-rest g l = record {
  read : (got : List ℕ) × Consumes (g.S.Source.left l.fn.source) (g.S.Source.left l.source) got
      × (length got + l.left ≡ l.most);
  some : 0 < l.left;
  size : l.window.size ≡ l.fn.window.size;
  room : 0 < l.window.size;
  later : g.S.Source.faults l.fn.source ≤ g.S.Source.faults l.source;
}

abbrev pub decreases-rest : goal.decreases-rest
decreases-rest g l = l.left
