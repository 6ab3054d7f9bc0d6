use Rattle.std.proofs.Common.{◌≡◌, ◌-◌, ◌<◌, ◌≤◌, ◌++◌, ℕ, List, Some, length}
use Rattle.std.specs.Prelude.{slice_index}
use Rattle.cache_face.specs.Keeping.{IsWhole}
use Rattle.cache_face.specs.Notes.{first_note}
use Rattle.pebr_words.specs.Pasts.{Read, written_at}
use Rattle.pebr_words.specs.Ruled.{HasReadWhole}
use Rattle.pebr_roots.specs.Under.{slot_at}
use Rattle.pebr_roots.specs.Passes.{shape_at, known_by_pass, number_by, note_by, past_by, operations_by, IsSame}
use Rattle.flow_cache.specs.Collecting.{HasSpared}
use Rattle.flow_cache.specs.Trying.{HasOnlyRead, HasMore}
use Rattle.flow_cache.proofs.cache.PebrCache.read_words.Given as goal

abbrev pub invariant-loop-word : goal.invariant-loop-word
invariant-loop-word l = record {
  high : l.from ≤ l.word;
  low : l.word ≤ l.to;
  long : length l.words ≡ 10;
  same : IsSame l.self.roots l.initial.pass l.pass;
  note : note_by first_note l.pass ≡ note_by first_note l.initial.pass;
  known : known_by_pass l.pass ≡ known_by_pass l.initial.pass;
  past : HasOnlyRead (past_by l.initial.pass) (past_by l.pass);
  grown : l.from ≡ 0 → l.to ≡ 10 → (reads : List Read)
      × ((past_by l.pass).reads ≡ reads ++ (past_by l.initial.pass).reads) × (length reads ≡ l.word) × ((k : ℕ) → k < l.word
      → written_at reads (slot_at (known_by_pass l.initial.pass) l.place) k ≡ Some (slice_index l.words k));
  more : HasMore (past_by l.initial.pass).reads (past_by l.pass).reads;
  read : (k : ℕ) → k < l.word → written_at (past_by l.pass).reads (slot_at (known_by_pass l.initial.pass) l.place) k
      ≡ Some (slice_index l.words k);
  behind : (k : ℕ) → l.to ≤ k → k < 10 → written_at (past_by l.pass).reads
      (slot_at (known_by_pass l.initial.pass) l.place) k ≡ Some (slice_index l.words k);
  whole : l.from < l.word → (content : List ℕ) → HasReadWhole (shape_at l.self.roots) (past_by l.pass)
      (slot_at (known_by_pass l.initial.pass) l.place) content → IsWhole content;
  few : HasSpared (shape_at l.self.roots) (number_by l.initial.pass) (l.word - l.from) (operations_by l.initial.pass)
      (operations_by l.pass);
}
