-- Laws about lawful lists.
use Rattle.std.specs.Prelude.{◌≡◌, ◌≢◌, ◌↔◌, ℕ, Bool, List, ◌++◌, Option, filter, All, AllPairs, IsPermutation}
use Rattle.std.specs.Prelude.{IsSorted}
use Rattle.std.specs.declared.cmp.Ordering.TheVariants.{Less}
use Rattle.flow_key.specs.declared.key.FlowKey.{FlowKey}
use Rattle.packet_accept.specs.Clock.{IsClock}
use Rattle.packet_accept.specs.declared.packet.Packet.{Packet}
use Rattle.flow_parts.specs.declared.fragment.Fragment.{Fragment}
use Rattle.flow_parts.specs.declared.timeouts.Timeouts.{Timeouts}
use Rattle.flow_parts.specs.Heap.{IsHeap}
use Rattle.flow_parts.specs.Joining.{IsJoinable}
use Rattle.record_ledger.specs.declared.record.FlowRecord.{FlowRecord}
use Rattle.record_ledger.specs.Gathered.{IsGathered}
use Rattle.record_ledger.specs.Order.{written_order}
use Rattle.record_ledger.specs.Lawful.{IsLawful, IsLawfulBy}
use Rattle.record_ledger.specs.Sessions.{IsSessions, key_then_time, cut, IsUncut, AreRecordsOf}

-- Two fragments that stand for packets, of one key and with the same last time, are joinable.
abbrev pub TiesJoin : Type 0
TiesJoin = (limits : Timeouts) (packets others : List Packet) (one other : Fragment)
    → IsHeap limits packets one → IsHeap limits others other
    → one.key ≡ other.key → one.last ≡ other.last → IsJoinable limits one other

-- Records are lawful by the clock of the packets exactly where they are lawful for just these.
abbrev pub OwnClockIsGiven : Type 0
OwnClockIsGiven = (limits : Timeouts) (packets : List Packet) (clock : Option ℕ) (records : List FlowRecord)
    → IsClock packets clock → IsLawfulBy limits clock packets records ↔ IsLawful limits packets records

-- Records that are lawful for some packets, and records of other keys that are lawful for others, by one clock, are
-- together, in the written order, lawful for all of these packets by that clock.
abbrev pub LawfulTogether : Type 0
LawfulTogether = (limits : Timeouts) (clock : Option ℕ) (packets others : List Packet)
    (records rest both : List FlowRecord)
    → IsLawfulBy limits clock packets records → IsLawfulBy limits clock others rest
    → All (λ (r : FlowRecord). All (λ (s : FlowRecord). r.part.key ≢ s.part.key) rest) records
    → IsPermutation (records ++ rest) both → IsSorted written_order both
    → IsLawfulBy limits clock (packets ++ others) both

-- In a lawful list each record comes strictly before those after it in the written order.
abbrev pub HasNoTies : Type 0
HasNoTies = (limits : Timeouts) (packets : List Packet) (records : List FlowRecord)
    → IsLawful limits packets records → AllPairs (λ one other. written_order one other ≡ Less) records

-- Packets in order of key and time, cut wherever the next one has another key or is more than the idle time-out later,
-- are in sessions.
abbrev pub CutsAreSessions : Type 0
CutsAreSessions = (idle : ℕ) (packets sorted : List Packet) → IsPermutation packets sorted
    → IsSorted key_then_time sorted
    → IsSessions idle packets (cut idle sorted)

-- Each list of packets has sessions.
abbrev pub HaveSessions : Type 0
HaveSessions = (idle : ℕ) (packets : List Packet) → (sessions : List (List Packet)) × IsSessions idle packets sessions

-- Where nothing cuts the sessions of the packets, each list that is lawful for the packets is the list of their
-- records.
abbrev pub LawfulAreSessions : Type 0
LawfulAreSessions = (limits : Timeouts) (packets : List Packet) (sessions : List (List Packet))
    → IsSessions limits.idle packets sessions
    → All (IsUncut limits) sessions → (records : List FlowRecord) → IsLawful limits packets records
    → AreRecordsOf limits packets sessions records

-- Sessions have one list of records.
abbrev pub RecordsAreOne : Type 0
RecordsAreOne = (limits : Timeouts) (packets : List Packet) (sessions : List (List Packet))
    → IsSessions limits.idle packets sessions
    → (records others : List FlowRecord) → AreRecordsOf limits packets sessions records
    → AreRecordsOf limits packets sessions others → records ≡ others

-- Where nothing cuts the sessions of the packets, they have one lawful list.
abbrev pub LawfulIsOne : Type 0
LawfulIsOne = (limits : Timeouts) (packets : List Packet) (sessions : List (List Packet))
    → IsSessions limits.idle packets sessions
    → All (IsUncut limits) sessions → (records others : List FlowRecord) → IsLawful limits packets records
    → IsLawful limits packets others
    → records ≡ others

-- What is gathered of fragments is one list of records.
abbrev pub GatheredIsOne : Type 0
GatheredIsOne = (limits : Timeouts) (clock : ℕ) (parts : List Fragment) (records others : List FlowRecord)
    → IsGathered limits clock parts records → IsGathered limits clock parts others → records ≡ others

-- It is the same in whatever order the fragments are.
abbrev pub GatheredInAnyOrder : Type 0
GatheredInAnyOrder = (limits : Timeouts) (clock : ℕ) (parts others : List Fragment) (records : List FlowRecord)
    → IsPermutation parts others → IsGathered limits clock parts records → IsGathered limits clock others records

-- The records gathered of the fragments of some keys are those of these keys among the records gathered of all.
abbrev pub GatheredByKeys : Type 0
GatheredByKeys = (limits : Timeouts) (clock : ℕ) (chosen : FlowKey → Bool) (parts : List Fragment)
    (records some : List FlowRecord) → IsGathered limits clock parts records
    → IsGathered limits clock (filter (λ (f : Fragment). chosen f.key) parts) some
    ↔ (some ≡ filter (λ (r : FlowRecord). chosen r.part.key) records)
