-- The code's own: how a thread stands.
use Rattle.std.specs.Prelude.{◌≡◌, ℕ, ◌≤◌}
use Rattle.cache_face.specs.Keeping.{packet_count}
use Rattle.cache_face.specs.Meaning.{PassMeans}

-- The pass is of one seat, and was given at most so many packets.
pub record IsGoing (count : ℕ) (pass : PassMeans) : Type 0 where
  pub single : pass.note.seats ≡ 1
  pub few : packet_count pass.note.taken ≤ count
