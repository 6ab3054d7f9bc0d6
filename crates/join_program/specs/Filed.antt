-- The code's own: what is kept of a file's records as they are read.
use Rattle.std.specs.Prelude.{◌≡◌, ◌-◌, ◌^◌, min, ℕ, Bool, true, false, List, ◌++◌, length, Option, Some}
use Rattle.std.specs.Prelude.{MatchOption, ⊤}
use Rattle.meter_io.specs.Sides.{Side, IsRead}
use Rattle.record_ledger.specs.declared.record.FlowRecord.{FlowRecord}
use Rattle.ipfix_model.specs.declared.values.DataRecord.{DataRecord}
use Rattle.ipfix_reader.specs.Flows.{flows_of}
use Rattle.ipfix_reader.specs.Taking.{HasFlows}
use Rattle.stream_input.specs.declared.error.StreamInputError.{StreamInputError}
use Rattle.stream_input.specs.declared.error.StreamInputError.TheVariants.{ReadFault as SourceFailed}
use Rattle.stream_input.specs.declared.error.StreamInputError.TheVariants.{TooLarge as MoreBytes}
use Rattle.stream_input.specs.declared.error.StreamInputError.TheVariants.{NotStream as OtherBytes}
use Rattle.stream_input.specs.declared.error.StreamInputError.TheVariants.{NoMemory as NoRoom}
use Rattle.join_program.specs.declared.taken.Taken.{Taken}
use Rattle.join_program.specs.declared.file_error.FileError.{FileError}
use Rattle.join_program.specs.declared.file_error.FileError.TheVariants.{Fault, NoMemory}
use Rattle.join_program.specs.declared.status.FileFault.TheVariants.{ReadFault, TooLarge, NotStream}
use Rattle.join_program.specs.Joined.{AreFew}
use Rattle.join_program.specs.Outcome.{limit, IsWrongWith}
use Rattle.join_program.specs.Taking.{IsTaken}
use Rattle.join_program.specs.Words.{OneOf}

-- What was taken when a file was opened was taken from these records.
abbrev pub HasBegun : Option Taken → Option OneOf → List FlowRecord → Type 0
HasBegun start share before = MatchOption start ⊥ (IsTaken share before)

-- What is kept of a file's data records, after the flow records `before` it, for which `begun` holds. `flows` are its
-- flow records up to the first other record. `count` is their number, or 2^64 - 1 where there are more. What was taken
-- is taken from `before` and `flows`, unless they have too many packets or octets.
pub record IsFiled (begun : List FlowRecord → Type 0) (share : Option OneOf) (taken : Taken) (count : ℕ)
    (has_other are_many : Bool) (records : List DataRecord) : Type 0 where
  pub flows : List FlowRecord
  pub are : HasFlows flows has_other records
  pub counted : count ≡ min (length flows) (2 ^ 64 - 1)
  pub few : are_many ≡ false → (before : List FlowRecord) → begun before → IsTaken share (before ++ flows) taken
  pub many : are_many ≡ true → (before : List FlowRecord) → begun before → ¬ AreFew share (before ++ flows)

-- ---- a file

-- Why a file isn't taken that wasn't read as a stream.
abbrev pub error_for : StreamInputError → FileError
error_for SourceFailed = Fault ReadFault
error_for MoreBytes = Fault TooLarge
error_for (OtherBytes fault) = Fault (NotStream fault)
error_for NoRoom = NoMemory

-- The file was read to its end, and its flow records are these.
abbrev pub HasGivenAll : Side → List FlowRecord → Type 0
HasGivenAll file flows = (bytes : List ℕ) × IsRead file limit bytes × (flows_of bytes ≡ Some flows)

-- Why the records of a file aren't taken after these records.
abbrev pub TakingFails : Option OneOf → List FlowRecord → Side → FileError → Type 0
TakingFails share before file NoMemory = ⊤
TakingFails share before file (Fault fault) = IsWrongWith share before file fault
