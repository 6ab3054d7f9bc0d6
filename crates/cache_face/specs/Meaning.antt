-- What a cache and its passes mean.
use Rattle.std.specs.Prelude.{◌≡◌, ◌≢◌, ℕ, List, length, Option, Some, None, MatchOption}
use Rattle.packet_accept.specs.declared.packet.Packet.{Packet}
use Rattle.flow_key.specs.Key.{set_number}
use Rattle.flow_parts.specs.declared.fragment.Fragment.{Fragment}
use Rattle.flow_parts.specs.declared.timeouts.Timeouts.{Timeouts}
use Rattle.flow_parts.specs.Parts.{IsAlone}
use Rattle.cache_face.specs.declared.metered.How.{How}
use Rattle.cache_face.specs.declared.metered.How.TheVariants.{Joined, Opened, Replaced, PassedBy}
use Rattle.cache_face.specs.Choice.{IsChoice}
use Rattle.cache_face.specs.Notes.{Note, first_note, merged_note, note_with}

-- A cache: its number of sets, its number of seats, and the time-outs by which its fragments' heaps go.
pub record CacheMeans : Type 0 where
  pub sets : ℕ
  pub seats : ℕ
  pub limits : Timeouts

-- What is written when a fragment is put in: the place of one of a set's four entries, counted from 0, and the fragment
-- that is its entry from then on.
pub record Written : Type 0 where
  pub place : ℕ
  pub kept : Fragment

-- A pass: what it has done, the set that its last try read, the four entries that it read there, and what it wrote
-- last.
pub record PassMeans : Type 0 where
  pub note : Note
  pub set : ℕ
  pub entries : List (Option Fragment)
  pub written : Option Written

-- A pass of one seat that has done nothing.
abbrev pub IsFresh : PassMeans → Type 0
IsFresh pass = (pass.note ≡ first_note) × (pass.written ≡ None)

-- A fragment was put in by the choice over the four entries that the pass read last, in the set of its key: what it
-- wrote last is what this choice makes of the entry at its place.
pub record IsChosen (cache : CacheMeans) (pass : PassMeans) (own : Fragment) (how : How)
    (out : Option Fragment) : Type 0 where
  pub set : pass.set ≡ set_number own.key cache.sets
  pub four : length pass.entries ≡ 4
  pub chosen : MatchOption pass.written ⊥
      (λ wrote. IsChoice cache.limits pass.entries own how wrote.place out wrote.kept)

-- A fragment was passed by: there is another seat, and the fragment itself is handed out.
abbrev pub IsPassedBy : CacheMeans → Fragment → Option Fragment → Type 0
IsPassedBy cache own out = (cache.seats ≢ 1) × (out ≡ Some own)

-- Each answer and its cause.
abbrev pub IsAnswer : CacheMeans → PassMeans → Fragment → How → Option Fragment → Type 0
IsAnswer cache pass own PassedBy out = IsPassedBy cache own out
IsAnswer cache pass own Joined out = IsChosen cache pass own Joined out
IsAnswer cache pass own Opened out = IsChosen cache pass own Opened out
IsAnswer cache pass own Replaced out = IsChosen cache pass own Replaced out

-- A packet is metered as the fragment of it alone: this was put in, or passed by.
pub record IsMetered (cache : CacheMeans) (old new : PassMeans) (packet : Packet) (how : How)
    (out : Option Fragment) : Type 0 where
  pub own : Fragment
  pub alone : IsAlone packet own
  pub note : new.note ≡ note_with old.note own out
  pub answer : IsAnswer cache new own how out

-- A pass stands for both of two, and goes on as the first.
abbrev pub IsUnited : PassMeans → PassMeans → PassMeans → Type 0
IsUnited one other both = (both.note ≡ merged_note one.note other.note) × (both.written ≡ one.written)
