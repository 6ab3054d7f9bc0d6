use Rattle.std.proofs.Common.{◌≡◌, ◌<◌, ◌≤◌, ℕ, Some}
use Rattle.std.specs.Prelude.{slice_index}
use Rattle.cache_face.specs.Notes.{first_note}
use Rattle.pebr_slots.specs.Sets.{least_in}
use Rattle.pebr_words.specs.Pasts.{written_at}
use Rattle.pebr_roots.specs.Passes.{shape_at, known_by_pass, number_by, note_by, past_by, operations_by, IsSame}
use Rattle.flow_cache.specs.Collecting.{HasSpared}
use Rattle.flow_cache.proofs.cache.PebrCache.fill.Given as goal

abbrev pub invariant-loop-word : goal.invariant-loop-word
invariant-loop-word l = record {
  low : l.word ≤ 10;
  same : IsSame l.self.roots l.initial.pass l.pass;
  note : note_by first_note l.pass ≡ note_by first_note l.initial.pass;
  known : known_by_pass l.pass ≡ known_by_pass l.initial.pass;
  past : past_by l.pass ≡ record (past_by l.initial.pass) {
    last = (past_by l.pass).last;
    steps =
        (past_by l.pass).steps;
    written = (past_by l.pass).written;
  };
  written : (k : ℕ) → k < l.word → written_at (past_by l.pass).written (least_in (known_by_pass l.initial.pass).fresh) k
      ≡ Some (slice_index l.words k);
  few : HasSpared (shape_at l.self.roots) (number_by l.initial.pass) l.word (operations_by l.initial.pass)
      (operations_by l.pass);
}
