-- Laws by which each step of a cache leaves it with what `Keeps` says.
use Rattle.std.specs.Prelude.{◌≡◌, ◌≢◌, ℕ, suc, ◌+◌, ◌*◌, ◌≤◌, ◌^◌, List, [], ◌∷◌, ◌++◌, length, sum_by, All, Option}
use Rattle.std.specs.Prelude.{Some}
use Rattle.std.specs.Prelude.{slice_set}
use mathlib.Core.Option.{some}
use lib.ListN.{get_elem?}
use Rattle.flow_parts.specs.declared.fragment.Fragment.{Fragment}
use Rattle.flow_parts.specs.declared.timeouts.Timeouts.{Timeouts}
use Rattle.flow_parts.specs.Parts.{part_words}
use Rattle.flow_parts.specs.Reaching.{Reaches}
use Rattle.cache_face.specs.declared.metered.How.{How}
use Rattle.cache_face.specs.Choice.{IsChoice, Takes, entry_at}
use Rattle.cache_face.specs.Keeping.{Keeps, IsWhole, IsSmall, IsEmptyContent, IsBounded, IsInSet, entry_of, parts_in}
use Rattle.cache_face.specs.Keeping.{packet_count, taken_in, IsBorne, AreBacking}
use Rattle.cache_face.specs.Notes.{Note, unused_note, first_note, empty_note, merged_note, note_with, note_seeing}

-- A pass of one seat can take the fragment: this is bounded, and with all that was put in before it has at most 2^32
-- packets.
pub record CanTake (note : Note) (own : Fragment) : Type 0 where
  pub single : note.seats ≡ 1
  pub bounded : IsBounded own
  pub room : packet_count note.taken + own.packets ≤ 2 ^ 32

-- A note of a pass through which nothing was put in.
abbrev pub IsUnused : Note → Type 0
IsUnused note = (note.taken ≡ []) × (note.handed ≡ []) × (note.seen ≡ [])

-- Empty contents, four for each set, and notes of at most 64 seats that have done nothing keep.
abbrev pub KeepsOpening : Type 0
KeepsOpening = (limits : Timeouts) (sets : ℕ) (contents : List (List ℕ)) (notes : List Note)
    → length contents ≡ 4 * sets → All IsEmptyContent contents → All IsUnused notes
    → sum_by (λ (note : Note). note.seats) notes ≤ 64
    → Keeps limits sets contents notes

-- A seat of an unused note gets a note of its own.
abbrev pub KeepsSplit : Type 0
KeepsSplit = (limits : Timeouts) (sets : ℕ) (contents : List (List ℕ)) (notes : List Note) (i seats : ℕ)
    → Keeps limits sets contents notes → get_elem? notes i ≡ some (unused_note (suc seats))
    → Keeps limits sets contents (slice_set notes i (unused_note seats) ++ first_note ∷ [])

-- Two notes are merged, and one becomes empty.
abbrev pub KeepsMerged : Type 0
KeepsMerged = (limits : Timeouts) (sets : ℕ) (contents : List (List ℕ)) (notes : List Note) (i j : ℕ) (one other : Note)
    → Keeps limits sets contents notes → j ≢ i → get_elem? notes i ≡ some one → get_elem? notes j ≡ some other
    → Keeps limits sets contents (slice_set (slice_set notes i (merged_note one other)) j empty_note)

-- A fragment is put into a content of the set of its key: the words are its entry's afterwards, and the note grows.
abbrev pub KeepsTaken : Type 0
KeepsTaken = (limits : Timeouts) (sets : ℕ) (contents : List (List ℕ)) (notes : List Note) (place i : ℕ)
    (content : List ℕ)
    (note : Note) (own kept : Fragment) (out : Option Fragment)
    → Keeps limits sets contents notes → get_elem? contents place ≡ some content → get_elem? notes i ≡ some note
    → CanTake note own → IsInSet sets place own → Takes limits own (entry_of content) out kept
    → Keeps limits sets (slice_set contents place (part_words kept)) (slice_set notes i (note_with note own out))

-- A fragment is handed out as it is: the note grows alone.
abbrev pub KeepsPassed : Type 0
KeepsPassed = (limits : Timeouts) (sets : ℕ) (contents : List (List ℕ)) (notes : List Note) (i : ℕ) (note : Note)
    (own : Fragment)
    → Keeps limits sets contents notes → get_elem? notes i ≡ some note → CanTake note own
    → Keeps limits sets contents (slice_set notes i (note_with note own (Some own)))

-- An entry that is borne out is seen: the note grows alone.
abbrev pub KeepsSeen : Type 0
KeepsSeen = (limits : Timeouts) (sets : ℕ) (contents : List (List ℕ)) (notes : List Note) (i : ℕ) (note : Note)
    (part : Fragment)
    → Keeps limits sets contents notes → get_elem? notes i ≡ some note → IsBorne limits (taken_in notes) part
    → Keeps limits sets contents (slice_set notes i (note_seeing note part))

-- What notes back they still back once a fragment was put in, once an entry was seen, and once two were merged.
abbrev pub BacksTaken : Type 0
BacksTaken = (limits : Timeouts) (notes : List Note) (content : List ℕ) (i : ℕ) (note : Note) (own : Fragment)
    (out : Option Fragment)
    → AreBacking limits notes content → get_elem? notes i ≡ some note
    → AreBacking limits (slice_set notes i (note_with note own out)) content

abbrev pub BacksSeen : Type 0
BacksSeen = (limits : Timeouts) (notes : List Note) (content : List ℕ) (i : ℕ) (note : Note) (part : Fragment)
    → AreBacking limits notes content → get_elem? notes i ≡ some note
    → AreBacking limits (slice_set notes i (note_seeing note part)) content

abbrev pub BacksMerged : Type 0
BacksMerged = (limits : Timeouts) (notes : List Note) (content : List ℕ) (i j : ℕ) (one other : Note)
    → AreBacking limits notes content → j ≢ i → get_elem? notes i ≡ some one → get_elem? notes j ≡ some other
    → AreBacking limits (slice_set (slice_set notes i (merged_note one other)) j empty_note) content

-- The notes of a cache back each of its contents, and any notes back an empty one.
abbrev pub KeptIsBacked : Type 0
KeptIsBacked = (limits : Timeouts) (sets : ℕ) (contents : List (List ℕ)) (notes : List Note) (place : ℕ)
    (content : List ℕ)
    → Keeps limits sets contents notes → get_elem? contents place ≡ some content → AreBacking limits notes content

abbrev pub EmptyIsBacked : Type 0
EmptyIsBacked = (limits : Timeouts) (notes : List Note) (content : List ℕ) → IsEmptyContent content
    → AreBacking limits notes content

-- Where all other notes are unused, the contents and what one was handed are reached from what it took, which bears out
-- what it saw.
abbrev pub KeptAtEnd : Type 0
KeptAtEnd = (limits : Timeouts) (sets : ℕ) (contents : List (List ℕ)) (notes : List Note) (i : ℕ) (note : Note)
    → Keeps limits sets contents notes → get_elem? notes i ≡ some note
    → ((j : ℕ) (other : Note) → j ≢ i → get_elem? notes j ≡ some other → IsUnused other)
    → Reaches limits note.taken (parts_in contents ++ note.handed) × All (IsBorne limits note.taken) note.seen

-- A fragment that a pass can take is small.
abbrev pub TakenIsSmall : Type 0
TakenIsSmall = (note : Note) (own : Fragment) → CanTake note own → IsSmall own

-- A whole content shows a small fragment, or none.
abbrev pub WholeIsSmall : Type 0
WholeIsSmall = (content : List ℕ) (fragment : Fragment) → IsWhole content → entry_of content ≡ Some fragment
    → IsSmall fragment

-- The words of a fragment show it.
abbrev pub WordsShow : Type 0
WordsShow = (fragment : Fragment) → entry_of (part_words fragment) ≡ Some fragment

-- A choice takes the fragment into the entry at its place.
abbrev pub ChoiceTakes : Type 0
ChoiceTakes = (limits : Timeouts) (entries : List (Option Fragment)) (own kept : Fragment) (how : How) (place : ℕ)
    (out : Option Fragment)
    → IsChoice limits entries own how place out kept → Takes limits own (entry_at entries place) out kept
