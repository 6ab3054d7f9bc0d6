-- The rule of the table, which holds between any two steps.
use Rattle.std.specs.Prelude.{◌≡◌, ◌⊎◌, ℕ, ◌+◌, ◌*◌, ◌<◌, ◌≤◌, List, [], length, map, slice_index, slice_index_or}
use mathlib.Core.Option.{some}
use lib.ListN.{get_elem?}
use Rattle.atomic_table.specs.Table.{State}
use Rattle.cache_face.specs.Keeping.{Keeps}
use Rattle.cache_face.specs.Laws.{IsUnused}
use Rattle.turn_cache.specs.declared.rule.Told.{Told}
use Rattle.turn_cache.specs.Hands.{Hand, Turn, idle, reading, writing, turns_held, claim, at_work, times, once_below}
use Rattle.turn_cache.specs.Hands.{total}
use Rattle.turn_cache.specs.Places.{turn_word, set_word, content_place}

-- What a seat is at is true of the table. The words that it read under the turn still stand there, but for those of the
-- entry that it writes. That entry counts as its new words already; its words in the table are as the seat knows them,
-- each the new one or still the one that was read.
abbrev pub FitsTurn : ℕ → List ℕ → List (List ℕ) → List ℕ → Turn → Type 0
FitsTurn sets words contents read idle = Unit {0}
FitsTurn sets words contents read (reading set) =
    (set < sets) × (length read ≤ 40)
    × ((k : ℕ) → k < length read → slice_index read k ≡ slice_index words (set_word set k))
FitsTurn sets words contents read (writing set place new now) =
    (set < sets) × (place < 4) × (length now ≡ 10) × (slice_index_or contents (content_place set place) [] ≡ new)
    × ((k : ℕ) → k < 10 → slice_index now k ≡ slice_index words (set_word set (10 * place + k)))
    × ((k : ℕ) → k < 10 → (slice_index now k ≡ slice_index new k)
    ⊎ (slice_index now k ≡ slice_index read (10 * place + k)))
    × (length read ≤ 40)
    × ((k : ℕ) → k < length read → (k < 10 * place) ⊎ (10 * place + 10 ≤ k)
    → slice_index read k ≡ slice_index words (set_word set k))

-- A seat that isn't idle is live: it stands for some number.
abbrev pub LiveAt : ℕ → Turn → Type 0
LiveAt count idle = Unit {0}
LiveAt count (reading set) = 0 < count
LiveAt count (writing set place new now) = 0 < count

-- What a seat knows is true of the table.
pub record Fits (sets : ℕ) (words : List ℕ) (contents : List (List ℕ)) (hand : Hand) : Type 0 where
  pub seats : hand.note.seats ≡ length hand.numbers
  pub gone : hand.note.seats ≡ 0 → IsUnused hand.note
  pub live : LiveAt (length hand.numbers) hand.turn
  pub turn : FitsTurn sets words contents hand.read hand.turn

-- The rule. There are contents, four for each set, such that
pub record Ruled (told : Told) (s : State (Unit {0}) Hand) : Type 0 where
  pub contents : List (List ℕ)
  pub small : (1 ≤ told.sets) × (told.sets ≤ 65536) × (told.seats ≤ 64)
  pub wide : length s.words ≡ 64 * told.sets
  pub many : length contents ≡ 4 * told.sets
  pub ten : (c : ℕ) → c < 4 * told.sets → length (slice_index_or contents c []) ≡ 10
  -- a turn word is 0, or the number, counted from 1, of the one seat that has the turn
  pub turns : (set : ℕ) → set < told.sets → total (claim set) s.views ≡ slice_index s.words (turn_word set)
  pub once : (set : ℕ) → total (turns_held set) s.views ≤ 1
  -- an entry that nobody writes has the words of its content
  pub settled : (set place k : ℕ) → set < told.sets → place < 4 → k < 10
      → total (λ hand. at_work set place hand.turn) s.views ≡ 0
      → slice_index (slice_index_or contents (content_place set place) []) k
      ≡ slice_index s.words (set_word set (10 * place + k))
  -- each number stands in one view
  pub numbers : (number : ℕ) → total (λ hand. times number hand.numbers) s.views ≡ once_below number told.seats
  pub seats : total (λ hand. hand.note.seats) s.views ≡ told.seats
  -- what each seat knows is true
  pub each : (j : ℕ) (hand : Hand) → get_elem? s.views j ≡ some hand → Fits told.sets s.words contents hand
  -- the cache keeps
  pub kept : Keeps told.timeouts told.sets contents (map (λ (hand : Hand). hand.note) s.views)
