use Rattle.std.proofs.Common.{◌*◌, ◌≡◌, ◌<◌, ◌≤◌, false}
use Rattle.cache_face.specs.Notes.{first_note}
use Rattle.pebr_core.specs.State.{is_out}
use Rattle.pebr_roots.specs.Passes.{shape_at, known_by_pass, number_by, note_by, past_by, operations_by, IsSame}
use Rattle.flow_cache.specs.Collecting.{HasSpared}
use Rattle.flow_cache.specs.Reading.{set_read}
use Rattle.flow_cache.specs.Trying.{AreLoaded}
use Rattle.flow_cache.proofs.cache.PebrCache.load_set.Given as goal

abbrev pub invariant-loop-place : goal.invariant-loop-place
invariant-loop-place l = record {
  low : l.place ≤ 4;
  same : IsSame l.self.roots l.initial.pass l.pass;
  note : note_by first_note l.pass ≡ note_by first_note l.initial.pass;
  entered : is_out (known_by_pass l.pass).status ≡ false;
  known : known_by_pass l.pass ≡ record (known_by_pass l.initial.pass) {
    seen = (known_by_pass l.pass).seen;
    shields =
        (known_by_pass l.pass).shields;
  };
  past : past_by l.pass ≡ record (past_by l.initial.pass) {
    last = (past_by l.pass).last;
    steps =
        (past_by l.pass).steps;
    loads = (past_by l.pass).loads;
    reads = (past_by l.pass).reads;
    shown = (past_by l.pass).shown;
  };
  loaded : AreLoaded l.set l.place (known_by_pass l.pass) (past_by l.pass);
  last : 0 < l.place → set_read (past_by l.pass).loads ≡ l.set;
  few : HasSpared (shape_at l.self.roots) (number_by l.initial.pass) (2 * l.place) (operations_by l.initial.pass)
      (operations_by l.pass);
}
