use Rattle.std.proofs.Common.{◌≡◌}
use Rattle.flow_cache.specs.Shown.{IsOf, shown_of}
use Rattle.bench_checks.proofs.asking.ask_all.Given as goal

abbrev pub invariant-loop-key : goal.invariant-loop-key
invariant-loop-key l = record {
  own : IsOf l.cache l.asked.pass;
  single : (shown_of l.asked.pass).note.seats ≡ 1;
}
