-- What a front is to a reader of contracts, and how it takes a packet in.
use Rattle.std.specs.Prelude.{◌≡◌, ℕ, ◌+◌, ◌*◌, List, [], ◌∷◌, Option, Some, option_to_list, flat_map, slice_set}
use Rattle.flow_key.specs.declared.key.FlowKey.{FlowKey}
use Rattle.flow_key.specs.Key.{set_number}
use Rattle.packet_accept.specs.declared.packet.Packet.{Packet}
use Rattle.flow_parts.specs.declared.fragment.Fragment.{Fragment}
use Rattle.flow_parts.specs.declared.timeouts.Timeouts.{Timeouts}
use Rattle.flow_parts.specs.Parts.{IsAlone}
use Rattle.cache_face.specs.declared.metered.How.{How}
use Rattle.cache_face.specs.Choice.{IsChoice, entry_at}

-- A front: the time-outs by which its fragments' heaps go, and its entries, two for each place, a place after the
-- other.
pub record FrontMeans : Type 0 where
  pub limits : Timeouts
  pub entries : List (Option Fragment)

-- The fragments of the entries that aren't empty, in their order.
abbrev pub parts_in : List (Option Fragment) → List Fragment
parts_in entries = flat_map (λ (entry : Option Fragment). option_to_list entry) entries

-- The open fragments of a front, in the order in which it is emptied.
abbrev pub open_in : FrontMeans → List Fragment
open_in front = parts_in front.entries

-- The place of a key, of 2,048.
abbrev pub place_of : FlowKey → ℕ
place_of key = set_number key 2048

-- The two entries of a place.
abbrev pub entries_of : List (Option Fragment) → ℕ → List (Option Fragment)
entries_of entries place = entry_at entries (2 * place) ∷ entry_at entries (2 * place + 1) ∷ []

-- A packet was taken in: its own fragment was put in by the choice over the two entries of its key's place. What was
-- put out leaves the front, and of all entries the chosen one alone was written.
pub record IsTakenIn (old new : FrontMeans) (packet : Packet) (out : Option Fragment) : Type 0 where
  pub own : Fragment
  pub alone : IsAlone packet own
  pub how : How
  pub entry : ℕ
  pub kept : Fragment
  pub chosen : IsChoice old.limits (entries_of old.entries (place_of own.key)) own how entry out kept
  pub written : new.entries ≡ slice_set old.entries (2 * place_of own.key + entry) (Some kept)
