-- Lists of records that are lawful for a list of packets (after RFC 5470, section 5.1.1).
use Rattle.std.specs.Prelude.{◌≡◌, ℕ, ◌+◌, List, [], ◌∷◌, Option, Some, None, MatchOption, filter, map, nat_lt}
use Rattle.std.specs.Prelude.{if◌then◌else◌, IsSorted, ⊤}
use Rattle.std.specs.Ordering.{is_eq}
use Rattle.flow_key.specs.declared.key.FlowKey.{FlowKey}
use Rattle.flow_key.specs.Key.{key_order}
use Rattle.packet_accept.specs.declared.packet.Packet.{Packet}
use Rattle.flow_parts.specs.declared.fragment.Fragment.{Fragment}
use Rattle.flow_parts.specs.declared.timeouts.Timeouts.{Timeouts}
use Rattle.packet_accept.specs.Clock.{IsClock}
use Rattle.packet_accept.specs.Ending.{is_tcp_end}
use Rattle.flow_parts.specs.Joining.{IsJoinable}
use Rattle.flow_parts.specs.Sharing.{SharesOut}
use Rattle.record_ledger.specs.declared.record.FlowRecord.{FlowRecord}
use Rattle.record_ledger.specs.Order.{written_order}

-- The fragments of records.
abbrev pub parts_of : List FlowRecord → List Fragment
parts_of records = map (λ (r : FlowRecord). r.part) records

-- The records of one key, in the order of the list.
abbrev pub of_key : FlowKey → List FlowRecord → List FlowRecord
of_key key records = filter (λ r. is_eq (key_order r.part.key key)) records

-- The fragment of a list's first record.
abbrev pub first_part : List FlowRecord → Option Fragment
first_part [] = None
first_part (r ∷ rest) = Some r.part

-- R holds of each record of a list and the fragment of the next one, if there is one.
abbrev pub EachWithNext : (FlowRecord → Option Fragment → Type 0) → List FlowRecord → Type 0
EachWithNext R [] = ⊤
EachWithNext R (r ∷ rest) = R r (first_part rest) × EachWithNext R rest

-- The record isn't joinable with the next one of its key.
abbrev pub StandsApart : Timeouts → FlowRecord → Option Fragment → Type 0
StandsApart limits r next = MatchOption next ⊤ (λ n. ¬ IsJoinable limits r.part n)

-- The reason why the flow of a fragment that isn't closed ended, by the next fragment of its key and the clock: 1 where
-- the flow was idle for longer than the idle time-out after it, 2 where the next one follows sooner, and 4 where
-- nothing is known.
abbrev pub open_reason : Timeouts → ℕ → Fragment → Option Fragment → ℕ
open_reason limits clock part (Some next) = if nat_lt (part.last + limits.idle) next.first then 1 else 2
open_reason limits clock part None = if nat_lt (part.last + limits.idle) clock then 1 else 4

-- The reason why a fragment's flow ended: 3 where the fragment is closed.
abbrev pub reason_of : Timeouts → ℕ → Fragment → Option Fragment → ℕ
reason_of limits clock part next = if is_tcp_end part.key.protocol part.flags then 3
    else open_reason limits clock part next

-- The record has that reason.
abbrev pub HasReason : Timeouts → ℕ → FlowRecord → Option Fragment → Type 0
HasReason limits clock r next = r.reason ≡ reason_of limits clock r.part next

-- The records are lawful for the packets: their fragments share out the packets, they stand in the written order, of
-- the records of one key no two neighbours are joinable, and each reason is right by every number that is the clock.
pub record IsLawfulAt (limits : Timeouts) (IsNow : ℕ → Type 0) (packets : List Packet)
    (records : List FlowRecord) : Type 0 where
  pub shared : SharesOut limits packets (parts_of records)
  pub ordered : IsSorted written_order records
  pub apart : (key : FlowKey) → EachWithNext (StandsApart limits) (of_key key records)
  pub reasons : (clock : ℕ) → IsNow clock → (key : FlowKey)
      → EachWithNext (HasReason limits clock) (of_key key records)

-- Lawful, by a clock that is given: the latest time of all packets, where these are but some of them.
abbrev pub IsLawfulBy : Timeouts → Option ℕ → List Packet → List FlowRecord → Type 0
IsLawfulBy limits clock packets records = IsLawfulAt limits (λ now. clock ≡ Some now) packets records

-- Lawful for just these packets: by their own clock.
abbrev pub IsLawful : Timeouts → List Packet → List FlowRecord → Type 0
IsLawful limits packets records = IsLawfulAt limits (λ now. IsClock packets (Some now)) packets records
