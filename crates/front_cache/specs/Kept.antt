-- What a front keeps of its contents, ten words for each entry, and how a fragment is put into one of them.
use Rattle.std.specs.Prelude.{◌≡◌, ℕ, ◌+◌, ◌<◌, ◌≤◌, List, [], ◌∷◌, Option, length, All, IfSome, IsNone, map, slice_set}
use Rattle.std.specs.Prelude.{slice_index_or}
use Rattle.flow_parts.specs.declared.fragment.Fragment.{Fragment}
use Rattle.flow_parts.specs.declared.timeouts.Timeouts.{Timeouts}
use Rattle.flow_parts.specs.Parts.{part_words}
use Rattle.cache_face.specs.declared.metered.How.{How}
use Rattle.cache_face.specs.Choice.{IsChoice, entry_at}
use Rattle.cache_face.specs.Keeping.{IsWhole, IsBounded, IsEmptyContent, entry_of}

-- There are 4,096 contents; each is whole, and what it shows is bounded. Those below `next` are empty.
pub record IsKept (contents : List (List ℕ)) (next : ℕ) : Type 0 where
  pub many : length contents ≡ 4096
  pub whole : All IsWhole contents
  pub bounded : All (λ content. IfSome (entry_of content) IsBounded) contents
  pub within : next ≤ 4096
  pub emptied : (place : ℕ) → place < next → IsNone (entry_at (map entry_of contents) place)

-- The place is that of the lowest content from `next` on that isn't empty, or their number.
pub record IsNextOpen (contents : List (List ℕ)) (next place : ℕ) : Type 0 where
  pub from : next ≤ place
  pub within : place ≤ length contents
  pub empty : (lower : ℕ) → next ≤ lower → lower < place → IsEmptyContent (slice_index_or contents lower [])
  pub full : place < length contents → ¬ IsEmptyContent (slice_index_or contents place [])

-- The two entries that the contents from `first` on show.
abbrev pub two_shown : List (List ℕ) → ℕ → List (Option Fragment)
two_shown contents first =
    entry_of (slice_index_or contents first []) ∷ entry_of (slice_index_or contents (first + 1) []) ∷ []

-- A fragment was put in by the choice over these two entries: the content at a place has other words.
pub record IsPutIn (limits : Timeouts) (old new : List (List ℕ)) (first : ℕ) (own : Fragment) (how : How) (place : ℕ)
    (out : Option Fragment) : Type 0 where
  pub entry : ℕ
  pub kept : Fragment
  pub chosen : IsChoice limits (two_shown old first) own how entry out kept
  pub at : place ≡ first + entry
  pub written : new ≡ slice_set old place (part_words kept)
