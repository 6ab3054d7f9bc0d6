-- An entry that is held, and an entry that isn't there.
use Rattle.std.specs.Prelude.{◌≡◌, ℕ, ◌<◌, IsTrue, Option, Some, None, option_map, length}
use Rattle.flow_key.specs.declared.key.FlowKey.{FlowKey}
use Rattle.flow_parts.specs.declared.fragment.Fragment.{Fragment}
use Rattle.cache_face.specs.Choice.{HasKey, HasNone, IsLowest, entry_at}
use Rattle.cache_face.specs.Keeping.{entry_of}
use Rattle.cache_face.specs.Notes.{Note, note_seeing}
use Rattle.pebr_core.specs.State.{Seat}
use Rattle.pebr_words.specs.Pasts.{History}
use Rattle.pebr_roots.specs.Under.{slot_at, is_valid_at}
use Rattle.flow_cache.specs.Reading.{words_read, entries_read}
use Rattle.flow_cache.specs.Trying.{HasTen}
use Rattle.cache_watch.specs.declared.watcher.Hold.{Hold}

-- The shield at a place is valid, and the slot under it has been read: its ten words are those of the fragment.
pub record IsHolding (place : ℕ) (fragment : Fragment) (known : Seat) (past : History) : Type 0 where
  pub within : place < 4
  pub valid : IsTrue (is_valid_at known place)
  pub ten : HasTen past.reads (slot_at known place)
  pub entry : entry_of (words_read past.reads (slot_at known place)) ≡ Some fragment

-- The note of a seat that holds an entry lists it as seen.
abbrev pub note_seen : Option Fragment → Note → Note
note_seen None note = note
note_seen (Some fragment) note = note_seeing note fragment

abbrev pub note_holding : Option Hold → Note → Note
note_holding held note = note_seen (option_map (λ hold. hold.fragment) held) note

-- The four entries of the set were read, and the lowest of them with the key is this fragment.
pub record IsHeld (set : ℕ) (key : FlowKey) (past : History) (fragment : Fragment) : Type 0 where
  pub four : length (entries_read past set) ≡ 4
  pub place : ℕ
  pub lowest : IsLowest (HasKey key) (entries_read past set) place
  pub is : entry_at (entries_read past set) place ≡ Some fragment

-- The four entries of the set were read, and none of them has the key.
abbrev pub IsAbsent : ℕ → FlowKey → History → Type 0
IsAbsent set key past = (length (entries_read past set) ≡ 4) × HasNone (HasKey key) (entries_read past set)
