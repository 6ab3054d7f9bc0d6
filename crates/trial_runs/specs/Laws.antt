-- Laws about made captures.
use Rattle.std.specs.Prelude.{◌≡◌, ◌≤◌, ℕ, List, Some, All}
use Rattle.pcap_reader.specs.File.{CaptureFile, capture_file}
use Rattle.packet_accept.specs.declared.packet.Packet.{Packet}
use Rattle.packet_accept.specs.Packets.{packets_of}
use Rattle.flow_parts.specs.declared.fragment.Fragment.{Fragment}
use Rattle.flow_parts.specs.declared.timeouts.Timeouts.{Timeouts}
use Rattle.record_ledger.specs.Sessions.{IsSessions, IsUncut, AreRecordsOf}
use Rattle.capture_maker.specs.Made.{capture_of}
use Rattle.meter_program.specs.Outcome.{IsMetered, IsTested}

-- Nothing cuts a session of a made capture, where the active time-out is 1000 s at least.
abbrev pub NothingCuts : Type 0
NothingCuts = (seed packets keys : ℕ) (file : CaptureFile) (limits : Timeouts) (sessions : List (List Packet))
    → packets ≤ 1000000
    → capture_file (capture_of seed packets keys) ≡ Some file → 1000000 ≤ limits.active
    → IsSessions limits.idle (packets_of file) sessions
    → All (IsUncut limits) sessions

-- The records that a self test sums up are those of the sessions of its capture.
abbrev pub TestsAreOne : Type 0
TestsAreOne = (seed packets keys : ℕ) (metered : List Fragment) (written reported : List ℕ)
    (tested : IsTested seed packets keys metered written reported)
    (sessions : List (List Packet)) → packets ≤ 1000000
    → IsSessions tested.is_metered.limits.idle (packets_of tested.is_metered.file) sessions
    → AreRecordsOf tested.is_metered.limits (packets_of tested.is_metered.file) sessions tested.is_metered.records

-- What `meter` writes and reports of a capture whose sessions nothing cuts is one text by its settings, whatever the
-- workers did and the cache gave: two runs write the same stream and report the same summary.
abbrev pub MeteredIsOne : Type 0
MeteredIsOne = (idle active size : ℕ) (capture written reported written' reported' : List ℕ)
    (metered others : List Fragment)
    (one : IsMetered idle active size metered capture written reported)
    → IsMetered idle active size others capture written' reported'
    → (sessions : List (List Packet)) → IsSessions one.limits.idle (packets_of one.file) sessions
    → All (IsUncut one.limits) sessions → (written ≡ written') × (reported ≡ reported')

-- So the stream of a self test, and what it writes, are one for its three numbers.
abbrev pub TestsWriteOne : Type 0
TestsWriteOne = (seed packets keys : ℕ) (metered others : List Fragment) (written reported written' reported' : List ℕ)
    → packets ≤ 1000000
    → (one : IsTested seed packets keys metered written reported)
    → (other : IsTested seed packets keys others written' reported')
    → (one.stream ≡ other.stream) × (written ≡ written')
