-- What a run means, by its words and its status.
use Rattle.std.specs.Prelude.{◌≡◌, ◌⊎◌, ◌≤◌, ◌*◌, ◌^◌, ℕ, List, length, [], Option, Some, None, Ok, Err, All, codes, ⊤}
use Rattle.pcap_reader.specs.File.{CaptureFile, IsCaptureOf, capture_file, IsKnownLink}
use Rattle.pcap_reader.specs.Records.{damage_of, tail_of}
use Rattle.packet_accept.specs.declared.packet.Packet.{Packet}
use Rattle.packet_accept.specs.Packets.{answers_of, packets_of}
use Rattle.capture_tally.specs.declared.tally.Tally.{Tally}
use Rattle.capture_tally.specs.Tallies.{IsTallyOf}
use Rattle.flow_parts.specs.declared.timeouts.Timeouts.{Timeouts}
use Rattle.record_ledger.specs.declared.record.FlowRecord.{FlowRecord}
use Rattle.record_ledger.specs.Lawful.{IsLawful}
use Rattle.record_ledger.specs.Regrouping.{Regroups}
use Rattle.flow_parts.specs.declared.fragment.Fragment.{Fragment}
use Rattle.record_ledger.specs.Sessions.{IsSessions, IsUncut, AreRecordsOf}
use Rattle.ipfix_writer.specs.Layout.{IsLayoutOf}
use Rattle.ipfix_model.specs.declared.values.DataRecord.{DataRecord}
use Rattle.ipfix_reader.specs.Messages.{decode}
use Rattle.ipfix_reader.specs.Flows.{flows_of}
use Rattle.meter_program.specs.declared.status.Status.{Status}
use Rattle.meter_program.specs.declared.status.Status.TheVariants.{Done, ReadFault, WriteFault, NotCapture, LinkUnknown}
use Rattle.meter_program.specs.declared.status.Status.TheVariants.{Damaged, TooLarge, NoMemory, Usage, NotStream}
use Rattle.meter_program.specs.declared.status.Status.TheVariants.{BadSchedule}
use Rattle.meter_program.specs.ExportTime.{export_time}
use Rattle.meter_program.specs.Shows.{text_of}
use Rattle.meter_program.specs.Summary.{count_line, summary}
use Rattle.meter_program.specs.Statuses.{fault_line}
use Rattle.meter_io.specs.Sides.{Side, IsRead, IsTooLarge, IsBroken, IsWrong, IsUntouched, HasTaken, HasBegun}
use Rattle.meter_io.specs.Sides.{HasTakenOrFailed, HasFailed}
use Rattle.meter_program.specs.Seen.{Seen}
use Rattle.cache_face.specs.Openings.{opened_with}
use Rattle.cache_face.specs.declared.opened.Opened.{Opened}
use Rattle.meter_program.specs.Words.{Asked, meter, show, make, schedule, selftest}
use Rattle.meter_program.specs.Replays.{bad_line, replay_text}
use Rattle.capture_maker.specs.Made.{capture_of}
use Rattle.pebr_core.specs.declared.kinds.Shape.{Shape}
use Rattle.pebr_core.specs.declared.kinds.Step.{Step}
use Rattle.pebr_schedule.specs.Grammar.{schedule_of}

-- ---- what a command reads

-- The input was read to its end, at most 2^30 bytes of a capture, 2^26 of a stream, 2^20 of a schedule. `make` and
-- `selftest` read nothing.
abbrev pub HasRead : Asked → Side → List ℕ → Type 0
HasRead (meter idle active workers sets piece size) input bytes = IsRead input (2 ^ 30) bytes
HasRead show input bytes = IsRead input (2 ^ 26) bytes
HasRead (make seed packets keys) input bytes = IsUntouched input × (bytes ≡ [])
HasRead schedule input bytes = IsRead input (2 ^ 20) bytes
HasRead (selftest seed packets keys) input bytes = IsUntouched input × (bytes ≡ [])

-- ---- what a command writes, where it is done

-- The bytes are an undamaged capture, of which these records are lawful: they partition its accepted packets, by these
-- time-outs. They regroup the fragments that the cache kept and handed out, and where nothing cuts the sessions of the
-- packets, they are the records of the sessions. What is written is their layout, in messages of at most so many
-- octets, and it decodes to them; the export time is the time of the latest packet in whole seconds. What standard
-- error takes is the summary.
pub record IsMetered (idle_seconds active_seconds size : ℕ) (metered : List Fragment)
    (capture written reported : List ℕ) : Type 0 where
  pub file : CaptureFile
  pub is_file : capture_file capture ≡ Some file
  pub known : IsKnownLink file.link
  pub undamaged : damage_of file ≡ None
  pub limits : Timeouts
  pub idle : limits.idle ≡ 1000 * idle_seconds
  pub active : limits.active ≡ 1000 * active_seconds
  pub records : List FlowRecord
  pub lawful : IsLawful limits (packets_of file) records
  pub regroups : Regroups metered records
  pub sessions : (sessions : List (List Packet)) → IsSessions limits.idle (packets_of file) sessions
      → All (IsUncut limits) sessions
      → AreRecordsOf limits (packets_of file) sessions records
  pub tally : Tally
  pub tally_is : IsTallyOf tally (answers_of file)
  pub messages : ℕ
  pub layout : IsLayoutOf size (export_time tally.clock) records written messages
  pub decoded : flows_of written ≡ Some records
  pub summary_is : reported ≡ summary tally (length records) messages (tail_of file)

-- The bytes are a stream of data records. What is written is a line for each.
pub record IsShown (stream written reported : List ℕ) : Type 0 where
  pub records : List DataRecord
  pub decoded : decode stream ≡ Ok records
  pub lines : written ≡ text_of records
  pub count : reported ≡ count_line (codes "records") (length records)

-- What is written is the capture of the seed.
pub record IsMade (seed packets keys : ℕ) (written reported : List ℕ) : Type 0 where
  pub octets : written ≡ capture_of seed packets keys
  pub count : reported ≡ count_line (codes "packets") packets

-- The bytes are a schedule without a bad line. What is written is its replay.
pub record IsReplayed (text written reported : List ℕ) : Type 0 where
  pub shape : Shape
  pub steps : List Step
  pub read : schedule_of text ≡ Ok (shape, steps)
  pub enabled : bad_line text ≡ None
  pub lines : written ≡ replay_text shape steps
  pub count : reported ≡ count_line (codes "steps") (length steps)

-- What is written is the summary of metering the capture of the seed with idle and active time-outs of 300 and 1800
-- seconds and messages of at most 1400 octets, whose stream goes nowhere. Nothing is reported.
pub record IsTested (seed packets keys : ℕ) (metered : List Fragment) (written reported : List ℕ) : Type 0 where
  pub stream : List ℕ
  pub is_metered : IsMetered 300 1800 1400 metered (capture_of seed packets keys) stream written
  pub nothing : reported ≡ []

-- What the command writes to the output and to standard error for this input. The fragments are those of the last cache
-- that was closed.
abbrev pub IsAnswer : Asked → List Fragment → List ℕ → List ℕ → List ℕ → Type 0
IsAnswer (meter idle active workers sets piece size) metered input written reported =
    IsMetered idle active size metered input written reported
IsAnswer show metered input written reported = IsShown input written reported
IsAnswer (make seed packets keys) metered input written reported = IsMade seed packets keys written reported
IsAnswer schedule metered input written reported = IsReplayed input written reported
IsAnswer (selftest seed packets keys) metered input written reported =
    IsTested seed packets keys metered written reported

-- Which caches were opened, where the command is done: one more, of the sets and with a pass for each of the workers
-- that `meter` asks for, or of 4,096 sets and with four passes at `selftest`; none by the other commands.
abbrev pub opened_after : Asked → Opened → Opened
opened_after (meter idle active workers sets piece size) before = opened_with before sets workers
opened_after show before = before
opened_after (make seed packets keys) before = before
opened_after schedule before = before
opened_after (selftest seed packets keys) before = opened_with before 4096 4

-- Standard error took this text; with `selftest`, which reports nothing, it is as it was.
abbrev pub HasReported : Asked → Side → List ℕ → Type 0
HasReported (meter idle active workers sets piece size) stderr reported = HasTaken stderr reported
HasReported show stderr reported = HasTaken stderr reported
HasReported (make seed packets keys) stderr reported = HasTaken stderr reported
HasReported schedule stderr reported = HasTaken stderr reported
HasReported (selftest seed packets keys) stderr reported = IsUntouched stderr

-- All was done: the input was read, and the output and standard error took the answer to it.
pub record IsDone (asked : Asked) (seen : Seen) : Type 0 where
  pub bytes : List ℕ
  pub read : HasRead asked seen.input bytes
  pub written : List ℕ
  pub reported : List ℕ
  pub answer : IsAnswer asked seen.metered bytes written reported
  pub output : HasTaken seen.output written
  pub stderr : HasReported asked seen.stderr reported

-- A write to the output or to standard error failed; of `selftest`, which leaves standard error as it was, one to the
-- output.
abbrev pub HasFailedToWrite : Asked → Seen → Type 0
HasFailedToWrite (meter idle active workers sets piece size) seen = HasFailed seen.output ⊎ HasFailed seen.stderr
HasFailedToWrite show seen = HasFailed seen.output ⊎ HasFailed seen.stderr
HasFailedToWrite (make seed packets keys) seen = HasFailed seen.output ⊎ HasFailed seen.stderr
HasFailedToWrite schedule seen = HasFailed seen.output ⊎ HasFailed seen.stderr
HasFailedToWrite (selftest seed packets keys) seen = HasFailed seen.output × IsUntouched seen.stderr

-- A write failed: the input was read, and the output and standard error took a beginning of the answer each, the
-- output all of it where none of its own calls failed.
pub record IsCutOff (asked : Asked) (seen : Seen) : Type 0 where
  pub bytes : List ℕ
  pub read : HasRead asked seen.input bytes
  pub written : List ℕ
  pub reported : List ℕ
  pub answer : IsAnswer asked seen.metered bytes written reported
  pub output : HasTakenOrFailed seen.output written
  pub stderr : HasBegun seen.stderr reported
  pub cause : HasFailedToWrite asked seen

-- ---- why a command refuses

-- Why `meter` refuses with a status; never with the others.
abbrev pub MeterRefuses : Side → Status → Type 0
MeterRefuses input ReadFault = IsBroken input (2 ^ 30)
MeterRefuses input TooLarge = IsTooLarge input (2 ^ 30)
MeterRefuses input NotCapture = IsWrong input (2 ^ 30) (λ bytes. capture_file bytes ≡ None)
MeterRefuses input (LinkUnknown link) = IsWrong input (2 ^ 30)
    (IsCaptureOf (λ file. (file.link ≡ link) × ¬ IsKnownLink link))
MeterRefuses input (Damaged at) = IsWrong input (2 ^ 30)
    (IsCaptureOf (λ file. IsKnownLink file.link × (damage_of file ≡ Some at)))
MeterRefuses input NoMemory = ⊤
MeterRefuses input Done = ⊥
MeterRefuses input WriteFault = ⊥
MeterRefuses input Usage = ⊥
MeterRefuses input (NotStream fault) = ⊥
MeterRefuses input (BadSchedule line) = ⊥

-- Why `show` refuses with a status; never with the others.
abbrev pub ShowRefuses : Side → Status → Type 0
ShowRefuses input ReadFault = IsBroken input (2 ^ 26)
ShowRefuses input TooLarge = IsTooLarge input (2 ^ 26)
ShowRefuses input (NotStream fault) = IsWrong input (2 ^ 26) (λ bytes. decode bytes ≡ Err fault)
ShowRefuses input NoMemory = ⊤
ShowRefuses input Done = ⊥
ShowRefuses input WriteFault = ⊥
ShowRefuses input Usage = ⊥
ShowRefuses input NotCapture = ⊥
ShowRefuses input (LinkUnknown link) = ⊥
ShowRefuses input (Damaged at) = ⊥
ShowRefuses input (BadSchedule line) = ⊥

-- Why `make` and `selftest` refuse with a status: only because memory is out. They read nothing then either.
abbrev pub MakeRefuses : Side → Status → Type 0
MakeRefuses input NoMemory = IsUntouched input
MakeRefuses input Done = ⊥
MakeRefuses input ReadFault = ⊥
MakeRefuses input WriteFault = ⊥
MakeRefuses input Usage = ⊥
MakeRefuses input NotCapture = ⊥
MakeRefuses input (LinkUnknown link) = ⊥
MakeRefuses input (Damaged at) = ⊥
MakeRefuses input TooLarge = ⊥
MakeRefuses input (NotStream fault) = ⊥
MakeRefuses input (BadSchedule line) = ⊥

-- Why `schedule` refuses with a status; never with the others.
abbrev pub ScheduleRefuses : Side → Status → Type 0
ScheduleRefuses input ReadFault = IsBroken input (2 ^ 20)
ScheduleRefuses input TooLarge = IsTooLarge input (2 ^ 20)
ScheduleRefuses input (BadSchedule line) = IsWrong input (2 ^ 20) (λ bytes. bad_line bytes ≡ Some line)
ScheduleRefuses input NoMemory = ⊤
ScheduleRefuses input Done = ⊥
ScheduleRefuses input WriteFault = ⊥
ScheduleRefuses input Usage = ⊥
ScheduleRefuses input NotCapture = ⊥
ScheduleRefuses input (LinkUnknown link) = ⊥
ScheduleRefuses input (Damaged at) = ⊥
ScheduleRefuses input (NotStream fault) = ⊥

abbrev pub Refuses : Asked → Side → Status → Type 0
Refuses (meter idle active workers sets piece size) input status = MeterRefuses input status
Refuses show input status = ShowRefuses input status
Refuses (make seed packets keys) input status = MakeRefuses input status
Refuses schedule input status = ScheduleRefuses input status
Refuses (selftest seed packets keys) input status = MakeRefuses input status

-- The command refused: it has a cause, nothing was written, and standard error took its line.
pub record IsRefused (asked : Asked) (seen : Seen) (told : Type 0) (status : Status) : Type 0 where
  pub cause : Refuses asked seen.input status
  pub output : IsUntouched seen.output
  pub stderr : told

-- How a command ends, by its status; `told` says what standard error took at a refusal.
abbrev pub Ends : Asked → Seen → Type 0 → Status → Type 0
Ends asked seen told Done = IsDone asked seen
Ends asked seen told WriteFault = IsCutOff asked seen
Ends asked seen told ReadFault = IsRefused asked seen told ReadFault
Ends asked seen told Usage = IsRefused asked seen told Usage
Ends asked seen told NotCapture = IsRefused asked seen told NotCapture
Ends asked seen told (LinkUnknown link) = IsRefused asked seen told (LinkUnknown link)
Ends asked seen told (Damaged at) = IsRefused asked seen told (Damaged at)
Ends asked seen told TooLarge = IsRefused asked seen told TooLarge
Ends asked seen told NoMemory = IsRefused asked seen told NoMemory
Ends asked seen told (NotStream fault) = IsRefused asked seen told (NotStream fault)
Ends asked seen told (BadSchedule line) = IsRefused asked seen told (BadSchedule line)

-- ---- a run

-- The words ask for nothing, or memory was out before they were read: nothing is read, nothing is written, and standard
-- error took this line.
pub record IsUsage (seen : Seen) (line : List ℕ) (status : Status) : Type 0 where
  pub usage : (status ≡ Usage) ⊎ (status ≡ NoMemory)
  pub input : IsUntouched seen.input
  pub output : IsUntouched seen.output
  pub stderr : HasTakenOrFailed seen.stderr line

-- What a run means, by what its words ask for. At a refusal standard error took the line of the status.
abbrev pub RunMeans : Option Asked → Seen → Status → Type 0
RunMeans None seen status = IsUsage seen (fault_line status) status
RunMeans (Some asked) seen status = Ends asked seen (HasTakenOrFailed seen.stderr (fault_line status)) status

-- ---- when a run is done

-- The input is one that the command takes; `make` and `selftest` take any.
abbrev pub IsValid : Asked → Side → Type 0
IsValid (meter idle active workers sets piece size) input =
    (bytes : List ℕ) × (input.before ≡ Some bytes) × (length bytes ≤ 2 ^ 30)
    × IsCaptureOf (λ file. IsKnownLink file.link × (damage_of file ≡ None)) bytes
IsValid show input =
    (bytes : List ℕ) × (input.before ≡ Some bytes) × (length bytes ≤ 2 ^ 26) × (records : List DataRecord)
    × (decode bytes ≡ Ok records)
IsValid (make seed packets keys) input = ⊤
IsValid schedule input = (bytes : List ℕ) × (input.before ≡ Some bytes) × (length bytes ≤ 2 ^ 20)
    × (bad_line bytes ≡ None)
IsValid (selftest seed packets keys) input = ⊤

-- No call of an object failed.
pub record IsQuiet (seen : Seen) : Type 0 where
  pub input : ¬ HasFailed seen.input
  pub output : ¬ HasFailed seen.output
  pub stderr : ¬ HasFailed seen.stderr

-- For a command and an input that it takes, where no call failed, the run is done, or memory is out.
abbrev pub IsComplete : Option Asked → Seen → Status → Type 0
IsComplete words seen status =
    (asked : Asked) → words ≡ Some asked → IsValid asked seen.input → IsQuiet seen
    → (status ≡ Done) ⊎ (status ≡ NoMemory)
