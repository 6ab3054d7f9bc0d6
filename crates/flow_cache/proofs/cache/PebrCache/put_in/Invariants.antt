use Rattle.std.proofs.Common.{◌*◌, ◌≡◌, ◌≢◌, ◌<◌, ◌≤◌, Some, None}
use Rattle.std.specs.Prelude.{IsTrue}
use Rattle.std.specs.List.{list_all}
use Rattle.cache_face.specs.Notes.{first_note, note_with}
use Rattle.pebr_core.specs.State.{is_out, is_down}
use Rattle.pebr_roots.specs.Passes.{shape_at, known_by_pass, number_by, note_by, past_by, operations_by, IsSame}
use Rattle.flow_cache.specs.Collecting.{HasCollected, HasSpared}
use Rattle.flow_cache.specs.Outcome.{HaveLost}
use Rattle.flow_cache.proofs.cache.PebrCache.put_in.Given as goal

abbrev pub invariant-loop-lost : goal.invariant-loop-lost
invariant-loop-lost g l = record {
  low : l.lost ≤ 3;
  same : IsSame l.self.roots l.initial.pass l.pass;
  out : IsTrue (is_out (known_by_pass l.pass).status);
  down : IsTrue (list_all is_down (known_by_pass l.pass).shields);
  fresh : (known_by_pass l.pass).fresh ≡ (known_by_pass l.initial.pass).fresh;
  ejections : (past_by l.pass).ejections ≡ (past_by l.initial.pass).ejections;
  none : l.metered.out ≡ None;
  note : l.lost < 3 → note_by first_note l.pass ≡ note_by first_note l.initial.pass;
  passed : l.lost ≡ 3
      → (note_by first_note l.pass ≡ note_with (note_by first_note l.initial.pass) l.own (Some l.own))
      × ((shape_at l.self.roots).seats ≢ 1);
  spared : HasCollected 0 (past_by l.initial.pass) (past_by l.pass);
  tries : HaveLost l.set l.lost (past_by l.initial.pass) (past_by l.pass);
  few : HasSpared (shape_at l.self.roots) (number_by l.initial.pass) (67 * l.lost) (operations_by l.initial.pass)
      (operations_by l.pass);
}
