-- What was taken so far stands behind what was there.
use Rattle.std.proofs.Common.{◌≡◌, ◌≤◌, ◌-◌, ◌++◌, ℕ, List, length, take}
use Rattle.std.specs.Io.KnownBytes.{Consumes}
use Rattle.capture_input.proofs.window.fill_behind.Given as goal

abbrev pub invariant-loop-taken : goal.invariant-loop-taken
invariant-loop-taken g l = record {
  within : l.end ≤ length l.buffer;
  same : length l.buffer ≡ length l.initial.buffer;
  grown : (got : List ℕ) × (take l.end l.buffer ≡ take l.initial.end l.initial.buffer ++ got) × (length got ≡ l.taken)
      × Consumes (g.S.Source.left l.initial.source) (g.S.Source.left l.source) got;
  most : l.taken ≤ l.most;
  quiet : g.S.Source.faults l.source ≡ g.S.Source.faults l.initial.source;
}

abbrev pub decreases-loop-taken : goal.decreases-loop-taken
decreases-loop-taken g l = l.most - l.taken
