-- What was taken so far is what was read, within the limit.
use Rattle.std.proofs.Common.{◌≡◌, ◌≤◌, length, ◌-◌}
use Rattle.std.specs.Io.KnownBytes.{Consumes}
use Rattle.meter_io.proofs.reading.read_all.Given as goal

abbrev pub invariant-loop-want : goal.invariant-loop-want
invariant-loop-want g l = record {
  taken : Consumes (g.S.Source.left l.initial.source) (g.S.Source.left l.source) l.all.items;
  quiet : g.S.Source.faults l.source ≡ g.S.Source.faults l.initial.source;
  within : length l.all.items ≤ l.limit;
  buffer : length l.chunk ≡ 65536;
}

abbrev pub decreases-loop-want : goal.decreases-loop-want
decreases-loop-want g l = l.limit - length l.all.items
