-- What metering, gathering and writing say of one another, for every program that meters.
use Rattle.std.specs.Prelude.{◌≡◌, ◌*◌, ◌^◌, ◌⊎◌, ℕ, List, length, Option, Some, None, All}
use Rattle.pcap_reader.specs.File.{CaptureFile, capture_file, IsKnownLink}
use Rattle.pcap_reader.specs.Records.{damage_of, tail_of}
use Rattle.packet_accept.specs.declared.packet.Packet.{Packet}
use Rattle.packet_accept.specs.Clock.{IsClock}
use Rattle.packet_accept.specs.Packets.{answers_of, packets_of}
use Rattle.capture_tally.specs.declared.tally.Tally.{Tally}
use Rattle.capture_tally.specs.Tallies.{IsTallyOf}
use Rattle.flow_parts.specs.declared.fragment.Fragment.{Fragment}
use Rattle.flow_parts.specs.declared.timeouts.Timeouts.{Timeouts}
use Rattle.flow_parts.specs.Sharing.{SharesOut}
use Rattle.record_ledger.specs.declared.record.FlowRecord.{FlowRecord}
use Rattle.record_ledger.specs.Lawful.{IsLawful}
use Rattle.record_ledger.specs.Regrouping.{Regroups}
use Rattle.record_ledger.specs.Sessions.{IsSessions, IsUncut, AreRecordsOf}
use Rattle.ipfix_writer.specs.Layout.{IsLayoutOf}
use Rattle.ipfix_reader.specs.Flows.{flows_of}
use Rattle.capture_input.specs.declared.fault.MeterFault.{MeterFault}
use Rattle.capture_input.specs.declared.fault.MeterFault.TheVariants.{Failed as SourceFailed, TooLarge as MoreBytes}
use Rattle.capture_input.specs.declared.fault.MeterFault.TheVariants.{NotCapture as NoHeader, LinkUnknown as OtherLink}
use Rattle.capture_input.specs.declared.fault.MeterFault.TheVariants.{Damaged as DamagedAt, NoMemory as NoRoom}
use Rattle.meter_program.specs.declared.status.Status.{Status}
use Rattle.meter_program.specs.declared.status.Status.TheVariants.{Done, ReadFault, WriteFault, NotCapture, LinkUnknown}
use Rattle.meter_program.specs.declared.status.Status.TheVariants.{Damaged, TooLarge, NoMemory, Usage, NotStream}
use Rattle.meter_program.specs.declared.status.Status.TheVariants.{BadSchedule}
use Rattle.meter_program.specs.ExportTime.{export_time}
use Rattle.meter_program.specs.Summary.{summary}
use Rattle.meter_io.specs.Sides.{Side, IsRead, HasTaken, HasBegun, HasTakenOrFailed, HasFailed, IsUntouched}

-- The status of a run whose input couldn't be metered.
abbrev pub status_for : MeterFault → Status
status_for SourceFailed = ReadFault
status_for MoreBytes = TooLarge
status_for NoHeader = NotCapture
status_for (OtherLink link) = LinkUnknown link
status_for (DamagedAt at) = Damaged at
status_for NoRoom = NoMemory

-- The bytes are an undamaged capture, whose packets these fragments share out by these time-outs; its tally and its
-- tail.
pub record IsKept (limits : Timeouts) (capture : List ℕ) (metered : List Fragment) (tally : Tally)
    (tail : ℕ) : Type 0 where
  pub file : CaptureFile
  pub is_file : capture_file capture ≡ Some file
  pub known : IsKnownLink file.link
  pub undamaged : damage_of file ≡ None
  pub shared : SharesOut limits (packets_of file) metered
  pub tally_is : IsTallyOf tally (answers_of file)
  pub tail_is : tail ≡ tail_of file

-- The input was read to its end, and it is such a capture.
pub record IsReadAndKept (input : Side) (limits : Timeouts) (metered : List Fragment) (tally : Tally)
    (tail : ℕ) : Type 0 where
  pub bytes : List ℕ
  pub read : IsRead input (2 ^ 30) bytes
  pub kept : IsKept limits bytes metered tally tail

-- The fragments were gathered into these records: they regroup them, and are lawful for whatever packets they share
-- out.
pub record AreGathered (limits : Timeouts) (metered : List Fragment) (clock : Option ℕ)
    (records : List FlowRecord) : Type 0 where
  pub regroups : Regroups metered records
  pub lawful : (packets : List Packet) → SharesOut limits packets metered → IsClock packets clock
      → IsLawful limits packets records
  pub sessions : (packets : List Packet) → SharesOut limits packets metered → IsClock packets clock
      → (sessions : List (List Packet))
      → IsSessions limits.idle packets sessions → All (IsUncut limits) sessions
      → AreRecordsOf limits packets sessions records

-- The records, the tally and the tail of an undamaged capture, whose packets were kept as these fragments.
pub record IsGathered (idle_seconds active_seconds : ℕ) (capture : List ℕ) (metered : List Fragment)
    (records : List FlowRecord) (tally : Tally) (tail : ℕ) : Type 0 where
  pub file : CaptureFile
  pub is_file : capture_file capture ≡ Some file
  pub known : IsKnownLink file.link
  pub undamaged : damage_of file ≡ None
  pub limits : Timeouts
  pub idle : limits.idle ≡ 1000 * idle_seconds
  pub active : limits.active ≡ 1000 * active_seconds
  pub lawful : IsLawful limits (packets_of file) records
  pub regroups : Regroups metered records
  pub sessions : (sessions : List (List Packet)) → IsSessions limits.idle (packets_of file) sessions
      → All (IsUncut limits) sessions
      → AreRecordsOf limits (packets_of file) sessions records
  pub tally_is : IsTallyOf tally (answers_of file)
  pub tail_is : tail ≡ tail_of file

-- The input was read to its end, and such records were gathered.
pub record IsReadAndGathered (input : Side) (idle_seconds active_seconds : ℕ) (metered : List Fragment)
    (records : List FlowRecord) (tally : Tally) (tail : ℕ) : Type 0 where
  pub bytes : List ℕ
  pub read : IsRead input (2 ^ 30) bytes
  pub gathered : IsGathered idle_seconds active_seconds bytes metered records tally tail

-- The bytes are the layout of the records in so many messages, and decode to them.
pub record IsWritten (size : ℕ) (records : List FlowRecord) (tally : Tally) (bytes : List ℕ)
    (messages : ℕ) : Type 0 where
  pub layout : IsLayoutOf size (export_time tally.clock) records bytes messages
  pub decoded : flows_of bytes ≡ Some records

-- The output took all, and standard error the summary.
pub record WroteBoth (size : ℕ) (records : List FlowRecord) (tally : Tally) (tail : ℕ)
    (output stderr : Side) : Type 0 where
  pub bytes : List ℕ
  pub messages : ℕ
  pub is_written : IsWritten size records tally bytes messages
  pub taken : HasTaken output bytes
  pub reported : HasTaken stderr (summary tally (length records) messages tail)

-- A write failed.
pub record WroteSome (size : ℕ) (records : List FlowRecord) (tally : Tally) (tail : ℕ)
    (output stderr : Side) : Type 0 where
  pub bytes : List ℕ
  pub messages : ℕ
  pub is_written : IsWritten size records tally bytes messages
  pub taken : HasTakenOrFailed output bytes
  pub reported : HasBegun stderr (summary tally (length records) messages tail)
  pub cause : HasFailed output ⊎ HasFailed stderr

-- What writing the records means, by its status.
abbrev pub WriteMeans : ℕ → List FlowRecord → Tally → ℕ → Side → Side → Status → Type 0
WriteMeans size records tally tail output stderr Done = WroteBoth size records tally tail output stderr
WriteMeans size records tally tail output stderr WriteFault = WroteSome size records tally tail output stderr
WriteMeans size records tally tail output stderr NoMemory = IsUntouched output × IsUntouched stderr
WriteMeans size records tally tail output stderr ReadFault = ⊥
WriteMeans size records tally tail output stderr Usage = ⊥
WriteMeans size records tally tail output stderr NotCapture = ⊥
WriteMeans size records tally tail output stderr (LinkUnknown link) = ⊥
WriteMeans size records tally tail output stderr (Damaged at) = ⊥
WriteMeans size records tally tail output stderr TooLarge = ⊥
WriteMeans size records tally tail output stderr (NotStream fault) = ⊥
WriteMeans size records tally tail output stderr (BadSchedule line) = ⊥
