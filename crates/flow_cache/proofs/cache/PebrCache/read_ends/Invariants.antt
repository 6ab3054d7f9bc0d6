use Rattle.std.proofs.Common.{◌≡◌, ◌*◌, ◌<◌, ◌≤◌, ℕ, Some, length}
use Rattle.std.specs.Prelude.{slice_index}
use Rattle.cache_face.specs.Notes.{first_note}
use Rattle.pebr_words.specs.Pasts.{written_at}
use Rattle.pebr_roots.specs.Under.{slot_at}
use Rattle.pebr_roots.specs.Passes.{shape_at, known_by_pass, number_by, note_by, past_by, operations_by, IsSame}
use Rattle.flow_cache.specs.Collecting.{HasSpared}
use Rattle.flow_cache.specs.Trying.{HasOnlyRead, HasMore}
use Rattle.flow_cache.proofs.cache.PebrCache.read_ends.Given as goal

abbrev pub invariant-loop-place : goal.invariant-loop-place
invariant-loop-place l = record {
  low : l.place ≤ 4;
  long : length l.firsts ≡ 4;
  long' : length l.lasts ≡ 4;
  same : IsSame l.self.roots l.initial.pass l.pass;
  note : note_by first_note l.pass ≡ note_by first_note l.initial.pass;
  known : known_by_pass l.pass ≡ known_by_pass l.initial.pass;
  past : HasOnlyRead (past_by l.initial.pass) (past_by l.pass);
  more : HasMore (past_by l.initial.pass).reads (past_by l.pass).reads;
  firsts : (k : ℕ) → k < l.place → written_at (past_by l.pass).reads (slot_at (known_by_pass l.initial.pass) k) 0
      ≡ Some (slice_index l.firsts k);
  lasts : (k : ℕ) → k < l.place → written_at (past_by l.pass).reads (slot_at (known_by_pass l.initial.pass) k) 9
      ≡ Some (slice_index l.lasts k);
  few : HasSpared (shape_at l.self.roots) (number_by l.initial.pass) (2 * l.place) (operations_by l.initial.pass)
      (operations_by l.pass);
}
