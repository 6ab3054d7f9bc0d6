-- What the status of a run means, for each command line.
use Rattle.std.specs.Prelude.{◌≡◌, ◌⊎◌, ◌≤◌, ◌<◌, ◌^◌, ℕ, List, [], ◌++◌, length, take, Option, Some, None, Err, ⊤}
use Rattle.std.specs.Prelude.{slice_index_or}
use Rattle.std.specs.List.{AllZip}
use Rattle.meter_io.specs.Causes.{Rose}
use Rattle.meter_io.specs.Reading.{TakesAtMost}
use Rattle.meter_io.specs.Sides.{Side, HasFailed, IsUntouched, IsRead, IsTooLarge, IsWrong, HasTaken, HasBegun}
use Rattle.meter_io.specs.Sides.{HasTakenOrFailed}
use Rattle.record_ledger.specs.declared.record.FlowRecord.{FlowRecord}
use Rattle.ipfix_reader.specs.Messages.{decode}
use Rattle.ipfix_reader.specs.Flows.{flows_of}
use Rattle.ipfix_reader.specs.Others.{HasOther}
use Rattle.join_program.specs.declared.status.FileFault.{FileFault}
use Rattle.join_program.specs.declared.status.FileFault.TheVariants.{ReadFault, TooLarge, NotStream, NotFlows, TooMany}
use Rattle.join_program.specs.declared.status.JoinStatus.{JoinStatus}
use Rattle.join_program.specs.declared.status.JoinStatus.TheVariants.{Done, Usage, WriteFault, NoMemory, Refused}
use Rattle.join_program.specs.Joined.{IsAnswer, IsExact, AreFew, together}
use Rattle.join_program.specs.Laws.{ComeOf}
use Rattle.join_program.specs.Statuses.{fault_line}
use Rattle.join_program.specs.Words.{Asked, OneOf}

-- The most bytes that a file may have.
abbrev pub limit : ℕ
limit = 2 ^ 32

-- What is seen of the files: the bytes of each by its name, where they are known, and the count of faults before and
-- after the run.
pub record Files : Type 0 where
  pub contents : List ℕ → Option (List ℕ)
  pub faults_before : ℕ
  pub faults_after : ℕ

-- What is seen of the files of an opener, by its state at the call and at the return.
abbrev pub files_seen : {O : Type 0} → (O → List ℕ → Option (List ℕ)) → (O → ℕ) → O → O → Files
files_seen contents faults old new =
    record { contents = contents old; faults_before = faults old; faults_after = faults new }

-- A call failed: one that opens a file, or one that reads it.
abbrev pub AreBroken : Files → Type 0
AreBroken files = Rose files.faults_before files.faults_after

-- The file of this name was read to its end, and its flow records are these.
pub record HasGiven (contents : List ℕ → Option (List ℕ)) (name : List ℕ) (flows : List FlowRecord) : Type 0 where
  pub file : Side
  pub opened : file.before ≡ contents name
  pub bytes : List ℕ
  pub read : IsRead file limit bytes
  pub are : flows_of bytes ≡ Some flows

-- Each of these files, in order.
abbrev pub HaveGiven : (List ℕ → Option (List ℕ)) → List (List ℕ) → List (List FlowRecord) → Type 0
HaveGiven contents names inputs = AllZip (HasGiven contents) names inputs

-- ---- all was done, or a write failed

-- All files were read to their ends, and the output took the answer to joining them. A join of joins is a join: where
-- the files come from other streams by joins, the answer is also one to joining these streams.
pub record IsDone (asked : Asked) (files : Files) (output : Side) : Type 0 where
  pub inputs : List (List FlowRecord)
  pub given : HaveGiven files.contents asked.files inputs
  pub few : AreFew asked.share (together inputs)
  pub written : List ℕ
  pub answer : IsAnswer asked inputs written
  pub exact : IsExact asked inputs written
  pub joins : (first : List (List FlowRecord)) → ComeOf asked first inputs → IsAnswer asked first written
  pub taken : HasTaken output written

-- The output took a beginning of the answer.
pub record IsCutOff (asked : Asked) (files : Files) (output : Side) : Type 0 where
  pub inputs : List (List FlowRecord)
  pub given : HaveGiven files.contents asked.files inputs
  pub few : AreFew asked.share (together inputs)
  pub written : List ℕ
  pub answer : IsAnswer asked inputs written
  pub exact : IsExact asked inputs written
  pub begun : HasBegun output written
  pub cause : HasFailed output

-- ---- a file was refused

-- The bytes are a stream of flow records which, together with those before them, have too many packets or octets.
abbrev pub HasTooMany : Option OneOf → List FlowRecord → List ℕ → Type 0
HasTooMany share before bytes =
    (flows : List FlowRecord) × (flows_of bytes ≡ Some flows) × ¬ AreFew share (before ++ flows)

-- What is wrong with a file, after files with these records.
abbrev pub IsWrongWith : Option OneOf → List FlowRecord → Side → FileFault → Type 0
IsWrongWith share before file ReadFault = TakesAtMost limit file.before file.after
IsWrongWith share before file TooLarge = IsTooLarge file limit
IsWrongWith share before file (NotStream fault) = IsWrong file limit (λ bytes. decode bytes ≡ Err fault)
IsWrongWith share before file (NotFlows place) = IsWrong file limit (HasOther place)
IsWrongWith share before file TooMany = IsWrong file limit (HasTooMany share before)

-- A read fault comes only where a call failed. Of the other faults nothing is said.
abbrev pub HasCauseIn : Files → FileFault → Type 0
HasCauseIn files ReadFault = AreBroken files
HasCauseIn files TooLarge = ⊤
HasCauseIn files (NotStream fault) = ⊤
HasCauseIn files (NotFlows place) = ⊤
HasCauseIn files TooMany = ⊤

-- The file at this place, counted from 0, is the first in which something is wrong, and it has this fault.
pub record IsFirstWrong (asked : Asked) (files : Files) (place : ℕ) (fault : FileFault) : Type 0 where
  pub inside : place < length asked.files
  pub inputs : List (List FlowRecord)
  pub given : HaveGiven files.contents (take place asked.files) inputs
  pub few : AreFew asked.share (together inputs)
  pub file : Side
  pub opened : file.before ≡ files.contents (slice_index_or asked.files place [])
  pub wrong : IsWrongWith asked.share (together inputs) file fault
  pub cause : HasCauseIn files fault

-- Nothing was written, and standard error took the line that reports the file, or a write to it failed.
pub record IsRefused (asked : Asked) (files : Files) (output stderr : Side) (place : ℕ)
    (fault : FileFault) : Type 0 where
  pub first : IsFirstWrong asked files place fault
  pub unwritten : IsUntouched output
  pub reported : HasTakenOrFailed stderr (fault_line (slice_index_or asked.files place []) fault)

-- ---- the run

-- How a command ends, by its status. Standard error is touched only where a file is refused.
abbrev pub Ends : Asked → Files → Side → Side → JoinStatus → Type 0
Ends asked files output stderr Done = IsDone asked files output × IsUntouched stderr
Ends asked files output stderr WriteFault = IsCutOff asked files output × IsUntouched stderr
Ends asked files output stderr NoMemory = IsUntouched output × IsUntouched stderr
Ends asked files output stderr Usage = ⊥
Ends asked files output stderr (Refused place fault) = IsRefused asked files output stderr place fault

-- The words are no command, and the run says so or runs out of memory: no call on a file failed, and nothing is
-- written.
pub record IsUsage (files : Files) (output stderr : Side) (status : JoinStatus) : Type 0 where
  pub usage : (status ≡ Usage) ⊎ (status ≡ NoMemory)
  pub unopened : files.faults_after ≡ files.faults_before
  pub unwritten : IsUntouched output
  pub unreported : IsUntouched stderr

-- What the status of a run means: the words are no command, or they ask for a join.
abbrev pub RunMeans : Option Asked → Files → Side → Side → JoinStatus → Type 0
RunMeans None files output stderr status = IsUsage files output stderr status
RunMeans (Some asked) files output stderr status = Ends asked files output stderr status

-- The file with this name has these bytes, no more than the limit.
abbrev pub IsFile : (List ℕ → Option (List ℕ)) → List ℕ → List ℕ → Type 0
IsFile contents name bytes = (contents name ≡ Some bytes) × (length bytes ≤ limit)

-- The files are streams of flow records, which don't have too many packets or octets.
pub record AreValid (asked : Asked) (contents : List ℕ → Option (List ℕ)) : Type 0 where
  pub streams : List (List ℕ)
  pub told : AllZip (IsFile contents) asked.files streams
  pub inputs : List (List FlowRecord)
  pub are : AllZip (λ bytes flows. flows_of bytes ≡ Some flows) streams inputs
  pub few : AreFew asked.share (together inputs)

-- A command for such files is done, or runs out of memory, where no call on the files or the output failed.
abbrev pub IsComplete : Option Asked → Files → Side → JoinStatus → Type 0
IsComplete words files output status =
    (asked : Asked) → words ≡ Some asked → AreValid asked files.contents → ¬ AreBroken files → ¬ HasFailed output
    → (status ≡ Done) ⊎ (status ≡ NoMemory)
