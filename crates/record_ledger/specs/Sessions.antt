-- The sessions of packets and their records: what is written where neither the active time-out nor the end of a flow
-- cuts.
use Rattle.std.specs.Prelude.{◌≡◌, ◌≢◌, ℕ, ◌+◌, ◌-◌, ◌<◌, ◌≤◌, max, ◌&&◌, nat_le, if◌then◌else◌, List, [], ◌∷◌}
use Rattle.std.specs.Prelude.{flat_map, Some, All, Any, AllPairs, IsPermutation}
use Rattle.std.specs.Ordering.{is_eq, nat_cmp, ordering_then}
use Rattle.std.specs.declared.cmp.Ordering.{Ordering}
use Rattle.std.specs.declared.cmp.Ordering.TheVariants.{Less}
use Rattle.flow_key.specs.declared.key.FlowKey.{FlowKey}
use Rattle.flow_key.specs.Key.{key_order}
use Rattle.packet_accept.specs.declared.packet.Packet.{Packet}
use Rattle.packet_accept.specs.Clock.{IsClock}
use Rattle.flow_parts.specs.declared.timeouts.Timeouts.{Timeouts}
use Rattle.flow_parts.specs.Heap.{IsLinked, IsHeap}
use Rattle.record_ledger.specs.declared.record.FlowRecord.{FlowRecord}
use Rattle.record_ledger.specs.Lawful.{of_key, EachWithNext, HasReason}
use Rattle.record_ledger.specs.Order.{written_order}
use Rattle.flow_parts.specs.Ending.{Ends}

-- Packets of one key in the two lists are more than the idle time-out apart.
abbrev pub IsApart : ℕ → List Packet → List Packet → Type 0
IsApart idle one other = All (λ p. All (λ q. p.key ≡ q.key → idle < max (p.time - q.time) (q.time - p.time)) other) one

-- The lists are the sessions of the packets: put together they are a permutation of the packets; each has a packet, has
-- packets of one key alone, and is linked, so that none of its gaps is longer than the idle time-out; and packets of
-- one key in two of them are more than the idle time-out apart.
pub record IsSessions (idle : ℕ) (packets : List Packet) (sessions : List (List Packet)) : Type 0 where
  pub whole : IsPermutation packets (flat_map (λ (session : List Packet). session) sessions)
  pub some : All (λ session. session ≢ []) sessions
  pub one_key : All (λ session. All (λ p. All (λ q. p.key ≡ q.key) session) session) sessions
  pub linked : All (IsLinked idle) sessions
  pub apart : AllPairs (IsApart idle) sessions

-- The order of packets by key, then by time.
abbrev pub key_then_time : Packet → Packet → Ordering
key_then_time one other = ordering_then (key_order one.key other.key) (nat_cmp one.time other.time)

-- The packet put before lists: into the first of them, where that begins with a packet of its key that is at most the
-- idle time-out later, and else as a list of its own.
abbrev pub put_before : ℕ → Packet → List (List Packet) → List (List Packet)
put_before idle p ((next ∷ session) ∷ rest) = if is_eq (key_order p.key next.key) && nat_le next.time (p.time + idle)
    then (p ∷ next ∷ session) ∷ rest else (p ∷ []) ∷ (next ∷ session) ∷ rest
put_before idle p lists = (p ∷ []) ∷ lists

-- The packets, cut wherever the next one has another key or is more than the idle time-out later.
abbrev pub cut : ℕ → List Packet → List (List Packet)
cut idle [] = []
cut idle (p ∷ packets) = put_before idle p (cut idle packets)

-- Nothing cuts the session: no two of its packets are more than the active time-out apart, and none is later than one
-- that ends the flow.
abbrev pub IsUncut : Timeouts → List Packet → Type 0
IsUncut limits session = All (λ p. All (λ q. (q.time ≤ p.time + limits.active) × (Ends p → q.time ≤ p.time)) session)
    session

-- The records are those of the sessions: each record's fragment has a session as its heap, and each session is the heap
-- of a record's fragment; the records rise in the written order; and each reason is right by the clock of the packets.
pub record AreRecordsOf (limits : Timeouts) (packets : List Packet) (sessions : List (List Packet))
    (records : List FlowRecord) : Type 0 where
  pub each : All (λ r. Any (λ session. IsHeap limits session r.part) sessions) records
  pub all : All (λ session. Any (λ r. IsHeap limits session r.part) records) sessions
  pub ordered : AllPairs (λ one other. written_order one other ≡ Less) records
  pub reasons : (clock : ℕ) → IsClock packets (Some clock) → (key : FlowKey)
      → EachWithNext (HasReason limits clock) (of_key key records)
