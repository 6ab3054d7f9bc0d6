-- Which of a set's entries takes a fragment in, and what becomes of the entry.
use Rattle.std.specs.Prelude.{◌≡◌, ◌⊎◌, ℕ, ◌<◌, ◌≤◌, List, Option, None, Some, MatchOption, IsNone, ⊤, length}
use Rattle.std.specs.Prelude.{slice_index_or}
use Rattle.flow_key.specs.declared.key.FlowKey.{FlowKey}
use Rattle.flow_parts.specs.declared.fragment.Fragment.{Fragment}
use Rattle.flow_parts.specs.declared.timeouts.Timeouts.{Timeouts}
use Rattle.flow_parts.specs.Joining.{IsJoinable}
use Rattle.flow_parts.specs.Parts.{IsJoined}
use Rattle.cache_face.specs.Keeping.{IsSmall}
use Rattle.cache_face.specs.declared.metered.How.{How}
use Rattle.cache_face.specs.declared.metered.How.TheVariants.{Joined, Opened, Replaced, PassedBy}

-- The entry at a place.
abbrev pub entry_at : List (Option Fragment) → ℕ → Option Fragment
entry_at entries place = slice_index_or entries place None

-- The entry has a fragment that is joinable with this one.
abbrev pub CanJoin : Timeouts → Fragment → Option Fragment → Type 0
CanJoin limits own entry = MatchOption entry ⊥ (λ old. IsJoinable limits old own)

-- The entry has a fragment of the key.
abbrev pub HasKey : FlowKey → Option Fragment → Type 0
HasKey key entry = MatchOption entry ⊥ (λ old. old.key ≡ key)

-- The entry is small, where it isn't empty.
abbrev pub IsSmallEntry : Option Fragment → Type 0
IsSmallEntry entry = MatchOption entry ⊤ IsSmall

-- `Is` holds of none of the entries.
abbrev pub HasNone : (Option Fragment → Type 0) → List (Option Fragment) → Type 0
HasNone Is entries = (place : ℕ) → place < length entries → ¬ Is (entry_at entries place)

-- The place is that of the lowest entry of which `Is` holds.
pub record IsLowest (Is : Option Fragment → Type 0) (entries : List (Option Fragment)) (place : ℕ) : Type 0 where
  pub below : place < length entries
  pub is : Is (entry_at entries place)
  pub first : (lower : ℕ) → lower < place → ¬ Is (entry_at entries lower)

-- The place is that of the entry with the least last time, the lowest among equals.
pub record IsOldest (entries : List (Option Fragment)) (place : ℕ) : Type 0 where
  pub below : place < length entries
  pub least : (other : ℕ) (oldest fragment : Fragment) → other < length entries → entry_at entries place ≡ Some oldest
      → entry_at entries other ≡ Some fragment → oldest.last ≤ fragment.last
  pub first : (lower : ℕ) (oldest fragment : Fragment) → lower < place → entry_at entries place ≡ Some oldest
      → entry_at entries lower ≡ Some fragment → oldest.last < fragment.last

-- The four rules. First: the lowest entry with a fragment that is joinable with this one takes it in.
pub record Joins (limits : Timeouts) (entries : List (Option Fragment)) (own : Fragment) (place : ℕ)
    (out : Option Fragment) (kept : Fragment) : Type 0 where
  pub lowest : IsLowest (CanJoin limits own) entries place
  pub joined : MatchOption (entry_at entries place) ⊥ (λ old. IsJoined old own kept)
  pub none_out : out ≡ None

-- Second: else the lowest entry of the key is put out, and opened anew.
pub record OpensAnew (limits : Timeouts) (entries : List (Option Fragment)) (own : Fragment) (place : ℕ)
    (out : Option Fragment) (kept : Fragment) : Type 0 where
  pub none_joins : HasNone (CanJoin limits own) entries
  pub lowest : IsLowest (HasKey own.key) entries place
  pub out_is : out ≡ entry_at entries place
  pub anew : kept ≡ own

-- Third: else the lowest empty entry is opened.
pub record OpensEmpty (limits : Timeouts) (entries : List (Option Fragment)) (own : Fragment) (place : ℕ)
    (out : Option Fragment) (kept : Fragment) : Type 0 where
  pub none_of_key : HasNone (HasKey own.key) entries
  pub lowest : IsLowest IsNone entries place
  pub none_out : out ≡ None
  pub opened : kept ≡ own

-- Fourth: else the entry with the least last time is put out, and opened anew.
pub record PutsOut (limits : Timeouts) (entries : List (Option Fragment)) (own : Fragment) (place : ℕ)
    (out : Option Fragment) (kept : Fragment) : Type 0 where
  pub none_of_key : HasNone (HasKey own.key) entries
  pub none_empty : HasNone IsNone entries
  pub oldest : IsOldest entries place
  pub out_is : out ≡ entry_at entries place
  pub anew : kept ≡ own

-- The choice: by which of the rules a fragment was put into these entries, at this place. `out` was put out, and the
-- entry is now `kept`.
abbrev pub IsChoice : Timeouts → List (Option Fragment) → Fragment → How → ℕ → Option Fragment → Fragment → Type 0
IsChoice limits entries own Joined place out kept = Joins limits entries own place out kept
IsChoice limits entries own Replaced place out kept =
    OpensAnew limits entries own place out kept ⊎ PutsOut limits entries own place out kept
IsChoice limits entries own Opened place out kept = OpensEmpty limits entries own place out kept
IsChoice limits entries own PassedBy place out kept = ⊥

-- What becomes of the one entry at that place: it took the fragment in, or was put out, if it had one, and opened by
-- it.
abbrev pub Takes : Timeouts → Fragment → Option Fragment → Option Fragment → Fragment → Type 0
Takes limits own entry out kept =
    (MatchOption entry ⊥ (λ old. IsJoinable limits old own × IsJoined old own kept) × (out ≡ None))
    ⊎ ((out ≡ entry) × (kept ≡ own))
