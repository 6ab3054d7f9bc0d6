-- The code's own: the records of each key as a chain of places, and the records that aren't taken yet.
use Rattle.std.specs.Prelude.{◌≡◌, ℕ, ◌+◌, ◌<◌, ◌≤◌, List, [], ◌∷◌, length, drop, nat_le, Option, Some, None, unwrap_or}
use Rattle.std.specs.Prelude.{slice_index_or, if◌then◌else◌}
use Rattle.std.specs.Map.{lookup}
use Rattle.flow_key.specs.declared.key.FlowKey.{FlowKey}
use Rattle.record_ledger.specs.declared.record.FlowRecord.{FlowRecord}
use Rattle.pair_program.specs.declared.biflow.Biflow.{Biflow}
use Rattle.pair_program.specs.Mates.{is_same}
use Rattle.pair_program.specs.Pairs.{first_mate, without_mate, IsFirstPair}

-- The places of keys, and the one that stands for none.
pub record KeyPlaces : Type 0 where
  pub entries : List (FlowKey × ℕ)
  pub none : ℕ

-- The place that a map has for a key, or the one that stands for none.
abbrev pub place_in : List (FlowKey × ℕ) → ℕ → FlowKey → ℕ
place_in entries none key = unwrap_or (lookup (is_same key) entries) none

abbrev pub place_of : KeyPlaces → FlowKey → ℕ
place_of places key = place_in places.entries places.none key

-- A record at a place has this key.
abbrev pub HasKeyAt : List FlowRecord → ℕ → FlowKey → Type 0
HasKeyAt records place key = (d : FlowRecord) → (slice_index_or records place d).part.key ≡ key

-- The place is one from `from` on with this key, or the number of records.
pub record IsPlace (records : List FlowRecord) (from : ℕ) (key : FlowKey) (place : ℕ) : Type 0 where
  pub behind : from ≤ place
  pub within : place ≤ length records
  pub there : place < length records → HasKeyAt records place key

-- The place is the first one from `from` on with this key, or the number of records where there is none.
pub record IsFirstPlace (records : List FlowRecord) (from : ℕ) (key : FlowKey) (place : ℕ) : Type 0 where
  pub one : IsPlace records from key place
  pub first : (k : ℕ) → from ≤ k → k < length records → HasKeyAt records k key → place ≤ k

-- Each key has a place from `from` on, not always the first one.
abbrev pub ArePlaces : List FlowRecord → ℕ → (FlowKey → ℕ) → Type 0
ArePlaces records from heads = (key : FlowKey) → IsPlace records from key (heads key)

-- From a place on, each record's link is the first place behind it with its key.
abbrev pub AreLinks : List FlowRecord → List ℕ → ℕ → Type 0
AreLinks records links from = (k : ℕ) (d : FlowRecord) → from ≤ k → k < length records
    → IsFirstPlace records (k + 1) (slice_index_or records k d).part.key (slice_index_or links k 0)

-- No record has an earlier first time than one that stands in front of it.
abbrev pub RisesFrom : List FlowRecord → Type 0
RisesFrom records = (i j : ℕ) (d : FlowRecord) → i ≤ j → j < length records
    → (slice_index_or records i d).part.first ≤ (slice_index_or records j d).part.first

-- From a place on, the records that aren't taken yet: those that stand at or behind the place of their key.
abbrev pub untaken_records : (FlowKey → ℕ) → ℕ → List FlowRecord → List FlowRecord
untaken_records heads place [] = []
untaken_records heads place (one ∷ more) =
    if nat_le (heads one.part.key) place then one ∷ untaken_records heads (place + 1) more
    else untaken_records heads (place + 1) more

-- From a place on, the first mate is taken out of the records that aren't taken.
pub record TakesMate (idle : ℕ) (records : List FlowRecord) (from : ℕ) (forward : FlowRecord) (old new : FlowKey → ℕ)
    (mate : Option FlowRecord) : Type 0 where
  pub mate_is : mate ≡ first_mate idle forward (untaken_records old from (drop from records))
  pub left : untaken_records new from (drop from records)
      ≡ without_mate idle forward (untaken_records old from (drop from records))

-- The record at a place and its mate are taken out, or the record was taken already.
abbrev pub TakesPair : ℕ → List FlowRecord → ℕ → (FlowKey → ℕ) → (FlowKey → ℕ) → Option Biflow → Type 0
TakesPair idle records place old new None =
    untaken_records old place (drop place records) ≡ untaken_records new (place + 1) (drop (place + 1) records)
TakesPair idle records place old new (Some pair) =
    IsFirstPair idle (untaken_records old place (drop place records)) pair
    (untaken_records new (place + 1) (drop (place + 1) records))

-- The list of a biflow, where there is one.
abbrev pub pair_list : Option Biflow → List Biflow
pair_list None = []
pair_list (Some pair) = pair ∷ []
