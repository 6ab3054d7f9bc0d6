-- Fragments that others become by permuting and joining.
use Rattle.std.specs.Prelude.{List, ◌∷◌, IsPermutation}
use Rattle.flow_parts.specs.declared.fragment.Fragment.{Fragment}
use Rattle.flow_parts.specs.declared.timeouts.Timeouts.{Timeouts}
use Rattle.flow_parts.specs.Joining.{IsJoinable}
use Rattle.flow_parts.specs.Parts.{IsJoined}

-- The second list of fragments is reached from the first by permuting fragments and joining joinable ones.
pub data Reaches (limits : Timeouts) : List Fragment → List Fragment → Type 0 where
  moved : (parts others : List Fragment) → IsPermutation parts others → Reaches limits parts others
  joined : (one other whole : Fragment) (rest : List Fragment) → IsJoinable limits one other → IsJoined one other whole
      → Reaches limits (one ∷ other ∷ rest) (whole ∷ rest)
  onward : (parts others wholes : List Fragment) → Reaches limits parts others → Reaches limits others wholes
      → Reaches limits parts wholes
