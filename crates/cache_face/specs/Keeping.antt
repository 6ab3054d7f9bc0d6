-- What a cache keeps, whatever its threads do in turn: contents of ten words each, and the notes of its passes.
use Rattle.std.specs.Prelude.{◌≡◌, ◌⊎◌, ℕ, ◌*◌, ◌/◌, ◌<◌, ◌≤◌, ◌^◌, List, [], ◌∷◌, ◌++◌, length, sum_by, flat_map, All}
use Rattle.std.specs.Prelude.{Option, Some, option_to_list, slice_index, slice_index_or}
use Rattle.flow_key.specs.Key.{set_number}
use Rattle.flow_parts.specs.declared.fragment.Fragment.{Fragment}
use Rattle.flow_parts.specs.declared.timeouts.Timeouts.{Timeouts}
use Rattle.flow_parts.specs.Fields.{part_fields_in}
use Rattle.flow_parts.specs.PartWith.{part_with}
use Rattle.flow_parts.specs.Parts.{part_words}
use Rattle.flow_parts.specs.Reaching.{Reaches}
use Rattle.cache_face.specs.Notes.{Note}

-- The entry that ten words show: the fragment with these words, or none.
abbrev pub entry_of : List ℕ → Option Fragment
entry_of content = part_with (part_fields_in content)

-- The fragment has no more packets and octets than a whole run can meter.
abbrev pub IsSmall : Fragment → Type 0
IsSmall fragment = (fragment.packets ≤ 2 ^ 38) × (fragment.octets < 2 ^ 62)

-- A content is empty, where its word of packets is 0.
abbrev pub IsEmptyContent : List ℕ → Type 0
IsEmptyContent content = slice_index content 5 ≡ 0

-- A content is whole: it is empty, or its ten words are those of a small fragment.
abbrev pub IsWhole : List ℕ → Type 0
IsWhole content = IsEmptyContent content ⊎ ((fragment : Fragment) × (part_words fragment ≡ content) × IsSmall fragment)

-- The fragments of the contents that aren't empty.
abbrev pub parts_in : List (List ℕ) → List Fragment
parts_in contents = flat_map (λ (content : List ℕ). option_to_list (entry_of content)) contents

-- The fragments that were put in by all passes, those that were handed out, and the entries that were seen.
abbrev pub taken_in : List Note → List Fragment
taken_in notes = flat_map (λ (note : Note). note.taken) notes

abbrev pub handed_in : List Note → List Fragment
handed_in notes = flat_map (λ (note : Note). note.handed) notes

abbrev pub seen_in : List Note → List Fragment
seen_in notes = flat_map (λ (note : Note). note.seen) notes

-- A fragment is borne out by what was put in: with some others it is reached from it.
abbrev pub IsBorne : Timeouts → List Fragment → Fragment → Type 0
IsBorne limits taken part = (others : List Fragment) × Reaches limits taken (part ∷ others)

-- The notes back a content: the fragment that it shows, if it shows one, is borne out by what all passes put in.
abbrev pub AreBacking : Timeouts → List Note → List ℕ → Type 0
AreBacking limits notes content =
    (part : Fragment) → entry_of content ≡ Some part → IsBorne limits (taken_in notes) part

-- Of so many sets, the one that this place lies in is that of the fragment's key: four places make a set.
abbrev pub IsInSet : ℕ → ℕ → Fragment → Type 0
IsInSet sets place fragment = set_number fragment.key sets ≡ place / 4

-- The packets that fragments have together.
abbrev pub packet_count : List Fragment → ℕ
packet_count parts = sum_by (λ (part : Fragment). part.packets) parts

-- A fragment is bounded: it has fewer octets than 2^24 for each of its packets.
abbrev pub IsBounded : Fragment → Type 0
IsBounded part = part.octets < part.packets * 2 ^ 24

-- A note is within bounds: the fragments that were put in are bounded, and have at most 2^32 packets together for each
-- of its seats.
pub record IsWithin (note : Note) : Type 0 where
  pub count : packet_count note.taken ≤ note.seats * 2 ^ 32
  pub each : All IsBounded note.taken

-- What a cache of so many sets keeps. It has four contents for each set; each content is whole, and what it shows is of
-- the set that it lies in. The contents that aren't empty and all fragments that were handed out are reached from all
-- that were put in, and what was seen is borne out by these. There are at most 64 seats, and each note is within
-- bounds; so all have at most 2^38 packets and fewer than 2^62 octets.
pub record Keeps (limits : Timeouts) (sets : ℕ) (contents : List (List ℕ)) (notes : List Note) : Type 0 where
  pub four : length contents ≡ 4 * sets
  pub whole : All IsWhole contents
  pub placed : (place : ℕ) (fragment : Fragment) → entry_of (slice_index_or contents place []) ≡ Some fragment
      → IsInSet sets place fragment
  pub regrouped : Reaches limits (taken_in notes) (parts_in contents ++ handed_in notes)
  pub seen : All (IsBorne limits (taken_in notes)) (seen_in notes)
  pub seats : sum_by (λ (note : Note). note.seats) notes ≤ 64
  pub each : All IsWithin notes
