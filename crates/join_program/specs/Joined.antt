-- The flow records of one stream that those of several streams become.
use Rattle.std.specs.Prelude.{◌≡◌, ℕ, ◌+◌, ◌*◌, ◌/◌, ◌%◌, ◌^◌, ◌<◌, ◌==◌, Bool, true, List, [], Option, Some, None}
use Rattle.std.specs.Prelude.{MatchOption, filter, flat_map, sum_by, All}
use Rattle.std.specs.List.{AllZip}
use Rattle.std.specs.Option.{unwrap_or}
use Rattle.flow_key.specs.declared.key.FlowKey.{FlowKey}
use Rattle.flow_key.specs.Key.{set_number}
use Rattle.packet_accept.specs.declared.packet.Packet.{Packet}
use Rattle.packet_accept.specs.Clock.{IsClock}
use Rattle.packet_accept.specs.Extremes.{IsGreatest}
use Rattle.flow_parts.specs.declared.fragment.Fragment.{Fragment}
use Rattle.flow_parts.specs.declared.timeouts.Timeouts.{Timeouts}
use Rattle.flow_parts.specs.Sharing.{SharesOut}
use Rattle.record_ledger.specs.declared.record.FlowRecord.{FlowRecord}
use Rattle.record_ledger.specs.Gathered.{IsGathered}
use Rattle.record_ledger.specs.Lawful.{parts_of, IsLawful, IsLawfulBy}
use Rattle.record_ledger.specs.Regrouping.{Regroups}
use Rattle.record_ledger.specs.Sessions.{IsSessions, IsUncut, AreRecordsOf}
use Rattle.ipfix_writer.specs.Layout.{IsLayout}
use Rattle.ipfix_reader.specs.Flows.{flows_of}
use Rattle.join_program.specs.Words.{Asked, OneOf}

-- The lists as one list, each behind the one before.
abbrev pub together : {A : Type 0} → List (List A) → List A
together lists = flat_map (λ list. list) lists

-- The key falls to the share: each key falls to exactly one share of `count`. Without a share every key does.
abbrev pub falls_to : Option OneOf → FlowKey → Bool
falls_to None key = true
falls_to (Some share) key = set_number key share.count + 1 == share.number

-- The fragments of the records whose keys fall to the share.
abbrev pub kept : Option OneOf → List FlowRecord → List Fragment
kept share flows = filter (λ (f : Fragment). falls_to share f.key) (parts_of flows)

-- The packets whose keys fall to the share.
abbrev pub falling : Option OneOf → List Packet → List Packet
falling share packets = filter (λ (p : Packet). falls_to share p.key) packets

-- The fragments that are kept have fewer than 2^64 packets, and fewer than 2^64 octets, so that one record can count
-- them.
pub record AreFew (share : Option OneOf) (flows : List FlowRecord) : Type 0 where
  pub packets : sum_by (λ (f : Fragment). f.packets) (kept share flows) < 2 ^ 64
  pub octets : sum_by (λ (f : Fragment). f.octets) (kept share flows) < 2 ^ 64

-- The latest time of some records, in milliseconds; none where there are no records.
abbrev pub IsLatest : List FlowRecord → Option ℕ → Type 0
IsLatest flows clock = MatchOption clock (flows ≡ []) (IsGreatest (λ (r : FlowRecord). r.part.last) flows)

-- The export time: the latest time in whole seconds, modulo 2^32; 0 where there are no records.
abbrev pub export_time : Option ℕ → ℕ
export_time None = 0
export_time (Some clock) = clock / 1000 % 2 ^ 32

-- The records of each input share out packets of its own.
abbrev pub EachSharesOut : Timeouts → List (List Packet) → List (List FlowRecord) → Type 0
EachSharesOut limits packets inputs = AllZip (λ own flows. SharesOut limits own (parts_of flows)) packets inputs

-- The records are those of the inputs, joined: they regroup the fragments that are kept. And let the records of each
-- input share out packets of its own. Then the clock is that of all these packets, and the records are lawful, by this
-- clock, for those of the packets whose keys fall to the share. Without a share they are lawful for all the packets,
-- and where nothing cuts the sessions of the packets, they are the records of these sessions.
pub record AreJoined (asked : Asked) (inputs : List (List FlowRecord)) (clock : Option ℕ)
    (records : List FlowRecord) : Type 0 where
  pub limits : Timeouts
  pub idle : limits.idle ≡ 1000 * asked.idle
  pub active : limits.active ≡ 1000 * asked.active
  pub latest : IsLatest (together inputs) clock
  pub regroups : Regroups (kept asked.share (together inputs)) records
  pub clock_is : (packets : List (List Packet)) → EachSharesOut limits packets inputs
      → IsClock (together packets) clock
  pub lawful_by : (packets : List (List Packet)) → EachSharesOut limits packets inputs
      → IsLawfulBy limits clock (falling asked.share (together packets)) records
  pub lawful : asked.share ≡ None → (packets : List (List Packet)) → EachSharesOut limits packets inputs
      → IsLawful limits (together packets) records
  pub sessions : asked.share ≡ None → (packets : List (List Packet)) → EachSharesOut limits packets inputs
      → (sessions : List (List Packet)) → IsSessions limits.idle (together packets) sessions
      → All (IsUncut limits) sessions → AreRecordsOf limits (together packets) sessions records

-- The records are exactly what is gathered from the fragments that fall to the share, by the latest time of all
-- records. So among the records that are gathered from the same inputs without a share, they are those whose keys fall
-- to it.
pub record AreGathered (asked : Asked) (inputs : List (List FlowRecord)) (clock : Option ℕ)
    (records : List FlowRecord) : Type 0 where
  pub limits : Timeouts
  pub idle : limits.idle ≡ 1000 * asked.idle
  pub active : limits.active ≡ 1000 * asked.active
  pub latest : IsLatest (together inputs) clock
  pub gathered : IsGathered limits (unwrap_or clock 0) (kept asked.share (together inputs)) records
  pub of_whole : (whole : List FlowRecord) → IsGathered limits (unwrap_or clock 0) (parts_of (together inputs)) whole
      → records ≡ filter (λ (r : FlowRecord). falls_to asked.share r.part.key) whole

-- What is written is the stream of the records that the inputs become. It reads back as these records.
pub record IsAnswer (asked : Asked) (inputs : List (List FlowRecord)) (written : List ℕ) : Type 0 where
  pub clock : Option ℕ
  pub records : List FlowRecord
  pub joined : AreJoined asked inputs clock records
  pub layout : IsLayout asked.size (export_time clock) records written
  pub decoded : flows_of written ≡ Some records

-- What is written is the stream of the records that are gathered from the inputs.
pub record IsExact (asked : Asked) (inputs : List (List FlowRecord)) (written : List ℕ) : Type 0 where
  pub clock : Option ℕ
  pub records : List FlowRecord
  pub gathered : AreGathered asked inputs clock records
  pub layout : IsLayout asked.size (export_time clock) records written
