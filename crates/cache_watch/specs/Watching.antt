-- What a watcher holds, and what came of its asking.
use Rattle.std.specs.Prelude.{◌≡◌, ◌≢◌, ℕ, ◌<◌, List, ◌++◌, Option, Some, None, MatchOption, IfSome, option_map}
use Rattle.std.specs.Prelude.{replicate}
use Rattle.flow_key.specs.Key.{set_number}
use Rattle.flow_key.specs.declared.key.FlowKey.{FlowKey}
use Rattle.flow_parts.specs.declared.fragment.Fragment.{Fragment}
use Rattle.cache_face.specs.Meaning.{CacheMeans}
use Rattle.cache_face.specs.Notes.{Note, first_note, empty_note}
use Rattle.pebr_words.specs.Pasts.{History, was_ejected}
use Rattle.pebr_words.specs.Pasts as pasts
use Rattle.pebr_table.specs.Operations.{Op}
use Rattle.pebr_roots.specs.Passes as roots
use Rattle.pebr_roots.specs.Passes.{known_by_pass, note_by, past_by, lost_by, operations_by, count_by_pass}
use Rattle.pebr_roots.specs.Passes.{IsUnitedPass}
use Rattle.pebr_roots.specs.Under.{slot_at}
use Rattle.pass_book.specs.Books.{noted, IsBeside}
use Rattle.flow_cache.specs.declared.cache.PebrCache.{PebrCache}
use Rattle.flow_cache.specs.Shown.{roots_of}
use Rattle.flow_cache.specs.Trying.{HasReadTen}
use Rattle.cache_watch.specs.declared.watcher.Watcher.{Watcher}
use Rattle.cache_watch.specs.declared.watcher.Watch.{Watch}
use Rattle.cache_watch.specs.declared.watcher.Watch.TheVariants.{Held, Absent, Lost}
use Rattle.cache_watch.specs.Holding.{IsHolding, IsHeld, IsAbsent}

-- The fragment that a watcher holds, and none where it is idle.
abbrev pub held_by : Watcher → Option Fragment
held_by watcher = option_map (λ hold. hold.fragment) watcher.held

-- The slot that it holds.
abbrev pub slot_held_by : Watcher → Option ℕ
slot_held_by watcher = option_map (λ hold. slot_at (known_by_pass watcher.seat) hold.place) watcher.held

-- What the watcher's seat has done as a pass of the cache, its steps, and the tries that it lost, the newest first.
abbrev pub note_of : Watcher → Note
note_of watcher = noted (note_by first_note watcher.seat) watcher.book

abbrev pub past_of : Watcher → History
past_of watcher = past_by watcher.seat

abbrev pub lost_of : Watcher → List pasts.Lost
lost_of watcher = lost_by watcher.seat

-- The operations on words that it made, the newest first.
abbrev pub operations_of : Watcher → List Op
operations_of watcher = operations_by watcher.seat

-- A watcher at a seat of this cache, whose note counts the seat. What it holds is under a valid shield.
pub record IsOf (cache : PebrCache) (watcher : Watcher) : Type 0 where
  pub of : roots.IsOf (roots_of cache) watcher.seat
  pub seats : (note_of watcher).seats ≡ count_by_pass watcher.seat
  pub united : IsUnitedPass empty_note watcher.seat
  pub beside : IsBeside (note_by first_note watcher.seat) watcher.book
  pub holds : IfSome watcher.held (λ hold. IsHolding hold.place hold.fragment (known_by_pass watcher.seat)
      (past_of watcher))

-- The reads of the watcher's seat grew by the ten words of the slot that it holds, and these are the fragment's.
abbrev pub HasRead : Fragment → Watcher → Watcher → Type 0
HasRead fragment old new =
    MatchOption (slot_held_by old) ⊥ (λ slot. HasReadTen slot (Some fragment) (past_of old).reads (past_of new).reads)

-- What came of asking for a key, and why. Held and Absent: the four entries of the key's set were read in this call,
-- since the watcher entered in it. Lost: in this call it was ejected three times, and there is another seat.
abbrev pub IsWatched : CacheMeans → FlowKey → Watch → Watcher → Watcher → Type 0
IsWatched cache key Held old new =
    ((past_of old).pins < (past_of new).pins)
    × MatchOption (held_by new) ⊥ (λ fragment. IsHeld (set_number key cache.sets) key (past_of new) fragment)
IsWatched cache key Absent old new =
    ((past_of old).pins < (past_of new).pins) × (held_by new ≡ None)
    × IsAbsent (set_number key cache.sets) key (past_of new)
IsWatched cache key Lost old new =
    (held_by new ≡ None) × (lost_of new ≡ replicate 3 was_ejected ++ lost_of old) × (cache.seats ≢ 1)
