-- The code's own: what it keeps of the records that were read so far, and a file that was read.
use Rattle.std.specs.Prelude.{◌≡◌, ℕ, List, [], sum_by, option_map, Option, Some, ⊤, slice_index_or}
use Rattle.meter_io.specs.Sides.{Side, HasTaken, HasBegun, HasFailed, IsUntouched, HasTakenOrFailed}
use Rattle.flow_parts.specs.declared.fragment.Fragment.{Fragment}
use Rattle.record_ledger.specs.declared.record.FlowRecord.{FlowRecord}
use Rattle.join_program.specs.declared.taken.Taken.{Taken}
use Rattle.join_program.specs.declared.settings.Share.{Share}
use Rattle.join_program.specs.declared.settings.JoinSettings.{JoinSettings}
use Rattle.join_program.specs.Joined.{kept, IsLatest, AreFew}
use Rattle.join_program.specs.Words.{OneOf, Asked}
use Rattle.join_program.specs.Outcome.{Files, IsWrongWith, IsFirstWrong, IsDone, IsCutOff}
use Rattle.ipfix_writer.specs.Layout.{IsLayout}
use Rattle.ipfix_reader.specs.Flows.{flows_of}
use Rattle.join_program.specs.declared.file_error.FileError.{FileError}
use Rattle.join_program.specs.declared.file_error.FileError.TheVariants.{Fault, NoMemory as OutOfMemory}
use Rattle.join_program.specs.Statuses.{fault_line}
use Rattle.join_program.specs.declared.status.FileFault.{FileFault}
use Rattle.join_program.specs.declared.status.JoinStatus.{JoinStatus}
use Rattle.join_program.specs.declared.status.JoinStatus.TheVariants.{Done, Usage, WriteFault, NoMemory, Refused}

abbrev pub one_of : Share → OneOf
one_of share = record { number = share.number; count = share.count }

abbrev pub share_of : Option Share → Option OneOf
share_of share = option_map one_of share

abbrev pub asked_of : JoinSettings → List (List ℕ) → Asked
asked_of settings files = record {
  idle = settings.idle;
  active = settings.active;
  size = settings.size;
  share = share_of settings.share;
  files = files;
}

pub record IsTaken (share : Option OneOf) (flows : List FlowRecord) (taken : Taken) : Type 0 where
  pub parts : taken.parts ≡ kept share flows
  pub packets : taken.packets ≡ sum_by (λ (f : Fragment). f.packets) (kept share flows)
  pub octets : taken.octets ≡ sum_by (λ (f : Fragment). f.octets) (kept share flows)
  pub clock : IsLatest flows taken.clock
  pub few : AreFew share flows

-- Why a file isn't taken after these records.
abbrev pub FileFails : Option OneOf → List FlowRecord → Option (List ℕ) → FileError → Type 0
FileFails share before bytes OutOfMemory = ⊤
FileFails share before bytes (Fault fault) = (file : Side) × (file.before ≡ bytes)
    × IsWrongWith share before file fault

-- Why files aren't taken.
abbrev pub FilesFail : Asked → Files → JoinStatus → Type 0
FilesFail asked files NoMemory = ⊤
FilesFail asked files (Refused place fault) = IsFirstWrong asked files place fault
FilesFail asked files Done = ⊥
FilesFail asked files Usage = ⊥
FilesFail asked files WriteFault = ⊥

-- What writing records means, by its status.
abbrev pub EmitMeans : ℕ → ℕ → List FlowRecord → Side → JoinStatus → Type 0
EmitMeans size time records output Done = (bytes : List ℕ) × IsLayout size time records bytes
    × (flows_of bytes ≡ Some records) × HasTaken output bytes
EmitMeans size time records output WriteFault = (bytes : List ℕ) × IsLayout size time records bytes
    × (flows_of bytes ≡ Some records) × HasBegun output bytes × HasFailed output
EmitMeans size time records output NoMemory = IsUntouched output
EmitMeans size time records output Usage = ⊥
EmitMeans size time records output (Refused place fault) = ⊥

-- What joining means, by its status, before anything is reported.
abbrev pub JoinMeans : Asked → Files → Side → JoinStatus → Type 0
JoinMeans asked files output Done = IsDone asked files output
JoinMeans asked files output WriteFault = IsCutOff asked files output
JoinMeans asked files output NoMemory = IsUntouched output
JoinMeans asked files output Usage = ⊥
JoinMeans asked files output (Refused place fault) = IsFirstWrong asked files place fault × IsUntouched output

-- What reporting a refused file means, by its status.
abbrev pub RefusalMeans : List (List ℕ) → ℕ → FileFault → Side → JoinStatus → Type 0
RefusalMeans names place fault stderr NoMemory = IsUntouched stderr
RefusalMeans names place fault stderr (Refused place' fault') = (place' ≡ place) × (fault' ≡ fault)
    × HasTakenOrFailed stderr (fault_line (slice_index_or names place []) fault)
RefusalMeans names place fault stderr Done = ⊥
RefusalMeans names place fault stderr Usage = ⊥
RefusalMeans names place fault stderr WriteFault = ⊥
