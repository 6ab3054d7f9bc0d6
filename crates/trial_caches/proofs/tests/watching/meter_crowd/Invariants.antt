use Rattle.std.proofs.Common.{◌≡◌, ◌≤◌}
use Rattle.cache_face.specs.Keeping.{packet_count}
use Rattle.flow_cache.specs.Shown.{shown_of, IsOf}
use Rattle.trial_caches.proofs.tests.watching.meter_crowd.Given as goal

abbrev pub invariant-loop-number : goal.invariant-loop-number
invariant-loop-number l = record {
  own : IsOf l.cache l.pass;
  single : (shown_of l.pass).note.seats ≡ 1;
  counted : packet_count (shown_of l.pass).note.taken ≤ l.number;
}
