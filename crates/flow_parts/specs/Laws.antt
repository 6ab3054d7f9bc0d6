-- Laws of fragments, and of sharing out for any lists.
use Rattle.std.specs.Prelude.{◌≡◌, ◌≤◌, ◌↔◌, List, [], ◌∷◌, ◌++◌, length, sum_by, All, Any, Option, Some, None}
use Rattle.std.specs.Prelude.{IsPermutation}
use Rattle.flow_key.specs.Fields.{AreFit}
use Rattle.flow_parts.specs.Ending.{Ends}
use Rattle.packet_accept.specs.declared.packet.Packet.{Packet}
use Rattle.flow_parts.specs.declared.fragment.Fragment.{Fragment}
use Rattle.flow_parts.specs.declared.timeouts.Timeouts.{Timeouts}
use Rattle.flow_parts.specs.Ending.{IsClosed}
use Rattle.flow_parts.specs.Fields.{PartFields, part_fields, AreCounts, IsPartOf}
use Rattle.flow_parts.specs.Heap.{IsHeap}
use Rattle.flow_parts.specs.Joining.{TakesIn, IsJoinable}
use Rattle.flow_parts.specs.PartWith.{part_with}
use Rattle.flow_parts.specs.Parts.{part_words, IsAlone, IsAbsorbed, IsJoined}
use Rattle.flow_parts.specs.Reaching.{Reaches}
use Rattle.flow_parts.specs.Sharing.{SharesOut}

-- No fragments share out no packets. Where there are no fragments there are no packets, and the other way round.
abbrev pub NothingIsShared : Type 0
NothingIsShared = ((limits : Timeouts) → SharesOut limits [] [])
    × ((limits : Timeouts) (packets : List Packet) → SharesOut limits packets [] → packets ≡ [])
    × ((limits : Timeouts) (parts : List Fragment) → SharesOut limits [] parts → parts ≡ [])

-- Sharing out stands when two lists of packets and their fragments are put together.
abbrev pub StandsTogether : Type 0
StandsTogether = (limits : Timeouts) (packets others : List Packet) (parts rest : List Fragment)
    → SharesOut limits packets parts → SharesOut limits others rest
    → SharesOut limits (packets ++ others) (parts ++ rest)

-- Sharing out stands when the packets and the fragments are permuted.
abbrev pub StandsPermuted : Type 0
StandsPermuted = (limits : Timeouts) (packets others : List Packet) (parts rest : List Fragment)
    → IsPermutation packets others → IsPermutation parts rest
    → SharesOut limits packets parts → SharesOut limits others rest

-- One fragment shares out the packets that are a heap of it, and no others.
abbrev pub SharesItsHeap : Type 0
SharesItsHeap = (limits : Timeouts) (packets : List Packet) (fragment : Fragment)
    → IsHeap limits packets fragment ↔ SharesOut limits packets (fragment ∷ [])

-- The fragments have as many packets and octets as the packets that they share out.
abbrev pub CountsAll : Type 0
CountsAll = (limits : Timeouts) (packets : List Packet) (parts : List Fragment) → SharesOut limits packets parts
    → (sum_by (λ (f : Fragment). f.packets) parts ≡ length packets)
    × (sum_by (λ (f : Fragment). f.octets) parts ≡ sum_by (λ (p : Packet). p.octets) packets)

-- Each fragment begins and ends at a packet of its key, and each packet lies in the span of a fragment of its key.
abbrev pub CoversTimes : Type 0
CoversTimes = (limits : Timeouts) (packets : List Packet) (parts : List Fragment) → SharesOut limits packets parts
    → All (λ f. Any (λ p. (p.key ≡ f.key) × (p.time ≡ f.first)) packets) parts
    × All (λ f. Any (λ p. (p.key ≡ f.key) × (p.time ≡ f.last)) packets) parts
    × All (λ p. Any (λ f. (f.key ≡ p.key) × (f.first ≤ p.time) × (p.time ≤ f.last)) parts) packets

-- Opening keeps sharing out: where the packets are a packet more, and the fragments that packet's own one more.
abbrev pub StandsOpened : Type 0
StandsOpened = (limits : Timeouts) (packets more : List Packet) (parts others : List Fragment) (packet : Packet)
    (own : Fragment)
    → IsAlone packet own → SharesOut limits packets parts
    → IsPermutation more (packet ∷ packets) → IsPermutation others (own ∷ parts) → SharesOut limits more others

-- Absorbing keeps sharing out: where the packets are a packet more, and a fragment that takes it in is replaced by the
-- one with it taken in.
abbrev pub StandsAbsorbed : Type 0
StandsAbsorbed = (limits : Timeouts) (packets more : List Packet) (parts others rest : List Fragment)
    (packet : Packet) (old new : Fragment) → TakesIn limits old packet → IsAbsorbed old packet new
    → SharesOut limits packets parts
    → IsPermutation more (packet ∷ packets) → IsPermutation parts (old ∷ rest) → IsPermutation others (new ∷ rest)
    → SharesOut limits more others

-- Joining keeps sharing out: where two joinable fragments are replaced by the two as one.
abbrev pub StandsJoined : Type 0
StandsJoined = (limits : Timeouts) (packets : List Packet) (parts others rest : List Fragment)
    (one other whole : Fragment)
    → IsJoinable limits one other → IsJoined one other whole → SharesOut limits packets parts
    → IsPermutation parts (one ∷ other ∷ rest) → IsPermutation others (whole ∷ rest) → SharesOut limits packets others

-- Whatever packets are shared out by fragments, the fragments reached from these share them out.
abbrev pub StandsReached : Type 0
StandsReached = (limits : Timeouts) (packets : List Packet) (parts others : List Fragment)
    → Reaches limits parts others → SharesOut limits packets parts → SharesOut limits packets others

-- The fragments reached have as many packets and octets together as those that they are reached from.
abbrev pub ReachesCounts : Type 0
ReachesCounts = (limits : Timeouts) (parts others : List Fragment) → Reaches limits parts others
    → (sum_by (λ (f : Fragment). f.packets) others ≡ sum_by (λ (f : Fragment). f.packets) parts)
    × (sum_by (λ (f : Fragment). f.octets) others ≡ sum_by (λ (f : Fragment). f.octets) parts)

-- Fragments are reached from themselves, and what is reached onward is reached.
abbrev pub ReachesOnward : Type 0
ReachesOnward = ((limits : Timeouts) (parts : List Fragment) → Reaches limits parts parts)
    × ((limits : Timeouts) (parts others wholes : List Fragment) → Reaches limits parts others
    → Reaches limits others wholes → Reaches limits parts wholes)

-- Reaching stands when either list is permuted.
abbrev pub ReachesPermuted : Type 0
ReachesPermuted = (limits : Timeouts) (parts parts' others others' : List Fragment)
    → IsPermutation parts parts' → IsPermutation others others' → Reaches limits parts others
    → Reaches limits parts' others'

-- Reaching stands when lists are put together.
abbrev pub ReachesTogether : Type 0
ReachesTogether = (limits : Timeouts) (parts others rest wholes : List Fragment) → Reaches limits parts others
    → Reaches limits rest wholes → Reaches limits (parts ++ rest) (others ++ wholes)

-- Two joinable fragments that were reached are joined, wherever they stand.
abbrev pub ReachesJoined : Type 0
ReachesJoined = (limits : Timeouts) (parts others wholes rest : List Fragment) (one other whole : Fragment)
    → IsJoinable limits one other → IsJoined one other whole → Reaches limits parts others
    → IsPermutation others (one ∷ other ∷ rest) → IsPermutation wholes (whole ∷ rest) → Reaches limits parts wholes

-- Where one list of fragments is reached from another, both are empty or neither is.
abbrev pub ReachesNone : Type 0
ReachesNone = (limits : Timeouts) (parts others : List Fragment) → Reaches limits parts others
    → (parts ≡ []) ↔ (others ≡ [])

-- A packet has one fragment of its own.
abbrev pub OwnIsOne : Type 0
OwnIsOne = (packet : Packet) (one other : Fragment) → IsAlone packet one → IsAlone packet other → one ≡ other

-- A packet fits a fragment exactly where the packet's own fragment is joinable with it.
abbrev pub FitsAsJoinable : Type 0
FitsAsJoinable = (limits : Timeouts) (fragment own : Fragment) (packet : Packet) → IsAlone packet own
    → TakesIn limits fragment packet ↔ IsJoinable limits fragment own

-- And to absorb the packet is to join its own fragment.
abbrev pub AbsorbsAsJoins : Type 0
AbsorbsAsJoins = (fragment own whole : Fragment) (packet : Packet) → IsAlone packet own
    → IsAbsorbed fragment packet whole ↔ IsJoined fragment own whole

-- Which of two fragments comes first makes no difference to joining them.
abbrev pub JoinsEitherWay : Type 0
JoinsEitherWay = (limits : Timeouts) (one other : Fragment) → IsJoinable limits one other
    → IsJoinable limits other one × ((whole : Fragment) → IsJoined one other whole → IsJoined other one whole)

-- A fragment is closed exactly where a packet of its heap ends its flow.
abbrev pub ClosedByPackets : Type 0
ClosedByPackets = (limits : Timeouts) (packets : List Packet) (fragment : Fragment) → IsHeap limits packets fragment
    → IsClosed fragment ↔ Any Ends packets

-- Two fragments with the same words are one fragment.
abbrev pub WordsTell : Type 0
WordsTell = (one other : Fragment) → part_words one ≡ part_words other → one ≡ other

-- Two fragments with the same fields are one fragment.
abbrev pub FieldsTell : Type 0
FieldsTell = (one other : Fragment) → part_fields one ≡ part_fields other → one ≡ other

-- The fields of a fragment fit.
abbrev pub PartsFit : Type 0
PartsFit = (f : Fragment) → AreFit (part_fields f).key × AreCounts (part_fields f)

-- Any numbers in these places have exactly one answer, a fragment or none, and `part_with` gives it.
abbrev pub AnswersOnce : Type 0
AnswersOnce = (fields : PartFields) → IsPartOf fields (part_with fields)
    × ((answer : Option Fragment) → IsPartOf fields answer → answer ≡ part_with fields)

-- So a fragment is the one with its fields.
abbrev pub PartOfItsFields : Type 0
PartOfItsFields = (f : Fragment) → part_with (part_fields f) ≡ Some f

-- And where the numbers don't fit there is none.
abbrev pub NoneWhereUnfit : Type 0
NoneWhereUnfit = (fields : PartFields) → ¬ (AreFit fields.key × AreCounts fields) → part_with fields ≡ None
