-- The choice among four contents, in words.
use Rattle.std.specs.Prelude.{◌≡◌, ℕ, List, Option, None, map}
use Rattle.flow_parts.specs.declared.fragment.Fragment.{Fragment}
use Rattle.flow_parts.specs.declared.timeouts.Timeouts.{Timeouts}
use Rattle.flow_parts.specs.Parts.{part_words}
use Rattle.cache_face.specs.declared.metered.How.{How}
use Rattle.cache_face.specs.declared.metered.How.TheVariants.{Joined, Opened, Replaced, PassedBy}
use Rattle.cache_face.specs.Choice.{IsChoice, entry_at}
use Rattle.cache_face.specs.Keeping.{entry_of}

-- What is put out of an entry: the fragment that it had, where it is replaced.
abbrev pub out_of : How → Option Fragment → Option Fragment
out_of Joined entry = None
out_of Opened entry = None
out_of Replaced entry = entry
out_of PassedBy entry = None

-- The fragment was put into one of the entries that the contents show, as `IsChoice` says, and the content at that
-- place is to have these words.
abbrev pub IsChosen : Timeouts → List (List ℕ) → Fragment → How → ℕ → List ℕ → Type 0
IsChosen limits contents own how place words =
    (kept : Fragment) × (part_words kept ≡ words)
    × IsChoice limits (map entry_of contents) own how place (out_of how (entry_at (map entry_of contents) place)) kept
