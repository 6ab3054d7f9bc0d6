-- What the status of a run means, for each command line.
use Rattle.std.specs.Prelude.{ℕ, ◌≡◌, ◌⊎◌, ◌*◌, ◌≤◌, ◌^◌, List, length, Option, Some, None, Err, ⊤}
use Rattle.meter_io.specs.Sides.{Side, HasFailed, IsUntouched, IsRead, IsTooLarge, IsBroken, IsWrong, HasTaken}
use Rattle.meter_io.specs.Sides.{HasBegun}
use Rattle.record_ledger.specs.declared.record.FlowRecord.{FlowRecord}
use Rattle.ipfix_reader.specs.Messages.{decode}
use Rattle.ipfix_reader.specs.Flows.{flows_of}
use Rattle.ipfix_reader.specs.Others.{HasOther}
use Rattle.pair_program.specs.declared.status.PairStatus.{PairStatus}
use Rattle.pair_program.specs.declared.status.PairStatus.TheVariants.{Done, ReadFault, Usage, WriteFault, TooLarge}
use Rattle.pair_program.specs.declared.status.PairStatus.TheVariants.{NoMemory, NotStream, NotFlows}
use Rattle.pair_program.specs.Pairing.{IsPaired}
use Rattle.pair_program.specs.Words.{Asked}

-- The most bytes that an input may have.
abbrev pub limit : ℕ
limit = 2 ^ 26

-- What is written is the stream of the biflows of the flow records of the input, as the words ask for.
abbrev pub IsAnswer : Asked → List ℕ → List ℕ → Type 0
IsAnswer asked input written = IsPaired (1000 * asked.idle) asked.size input written

-- All was done: the input was read to its end, and the output took the answer to it.
pub record IsDone (asked : Asked) (input output : Side) : Type 0 where
  pub bytes : List ℕ
  pub read : IsRead input limit bytes
  pub written : List ℕ
  pub answer : IsAnswer asked bytes written
  pub taken : HasTaken output written

-- A write failed: the input was read to its end, and the output took a beginning of the answer.
pub record IsCutOff (asked : Asked) (input output : Side) : Type 0 where
  pub bytes : List ℕ
  pub read : IsRead input limit bytes
  pub written : List ℕ
  pub answer : IsAnswer asked bytes written
  pub begun : HasBegun output written
  pub cause : HasFailed output

-- Why a command refuses with each status; where this is `⊥`, a command never refuses with that status.
abbrev pub Refuses : Side → PairStatus → Type 0
Refuses input ReadFault = IsBroken input limit
Refuses input TooLarge = IsTooLarge input limit
Refuses input (NotStream fault) = IsWrong input limit (λ bytes. decode bytes ≡ Err fault)
Refuses input (NotFlows place) = IsWrong input limit (HasOther place)
Refuses input NoMemory = ⊤
Refuses input Usage = ⊥
Refuses input Done = ⊥
Refuses input WriteFault = ⊥

-- The command refused: it has a cause, and wrote nothing.
pub record IsRefused (input output : Side) (status : PairStatus) : Type 0 where
  pub cause : Refuses input status
  pub unwritten : IsUntouched output

-- How a command ends, by its status.
abbrev pub Ends : Asked → Side → Side → PairStatus → Type 0
Ends asked input output Done = IsDone asked input output
Ends asked input output WriteFault = IsCutOff asked input output
Ends asked input output ReadFault = IsRefused input output ReadFault
Ends asked input output Usage = IsRefused input output Usage
Ends asked input output TooLarge = IsRefused input output TooLarge
Ends asked input output NoMemory = IsRefused input output NoMemory
Ends asked input output (NotStream fault) = IsRefused input output (NotStream fault)
Ends asked input output (NotFlows place) = IsRefused input output (NotFlows place)

-- The words are no command, and the run says so or runs out of memory: nothing is read and nothing is written.
pub record IsUsage (input output : Side) (status : PairStatus) : Type 0 where
  pub usage : (status ≡ Usage) ⊎ (status ≡ NoMemory)
  pub unread : IsUntouched input
  pub unwritten : IsUntouched output

-- What the status of a run means: the words are no command, or they ask for a pairing.
abbrev pub RunMeans : Option Asked → Side → Side → PairStatus → Type 0
RunMeans None input output status = IsUsage input output status
RunMeans (Some asked) input output status = Ends asked input output status

-- The bytes are a stream of flow records, no longer than the limit.
abbrev pub IsValid : List ℕ → Type 0
IsValid bytes = (length bytes ≤ limit) × (flows : List FlowRecord) × (flows_of bytes ≡ Some flows)

-- A command whose input is such a stream is done, or runs out of memory, where no call on the input or the output
-- failed.
abbrev pub IsComplete : Option Asked → Side → Side → PairStatus → Type 0
IsComplete words input output status =
    (asked : Asked) (bytes : List ℕ) → words ≡ Some asked → input.before ≡ Some bytes → IsValid bytes
    → ¬ HasFailed input → ¬ HasFailed output → (status ≡ Done) ⊎ (status ≡ NoMemory)
