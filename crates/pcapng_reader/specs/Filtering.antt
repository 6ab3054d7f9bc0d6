-- The code's own: how a run ends once the input was read.
use Rattle.std.specs.Prelude.{ℕ, ◌≡◌, List, None, Err, IsSome}
use Rattle.meter_io.specs.Sides.{Side, IsUntouched, HasFailed, HasTaken, HasBegun}
use Rattle.pcapng_reader.specs.declared.status.PngStatus.{PngStatus}
use Rattle.pcapng_reader.specs.declared.status.PngStatus.TheVariants.{Done, ReadFault, Usage, WriteFault, NotPcapng}
use Rattle.pcapng_reader.specs.declared.status.PngStatus.TheVariants.{BadBlock, TooLarge, NoMemory}
use Rattle.pcapng_reader.specs.Blocks.{file_order}
use Rattle.pcapng_reader.specs.Reading.{found_in}
use Rattle.pcapng_reader.specs.Outcome.{IsAnswer}

-- The answer to these bytes was written.
pub record IsWritten (bytes : List ℕ) (output : Side) : Type 0 where
  pub written : List ℕ
  pub answer : IsAnswer bytes written
  pub taken : HasTaken output written

-- A beginning of the answer was written, and a write failed.
pub record IsBegun (bytes : List ℕ) (output : Side) : Type 0 where
  pub written : List ℕ
  pub answer : IsAnswer bytes written
  pub begun : HasBegun output written
  pub cause : HasFailed output

abbrev pub FilterEnds : List ℕ → Side → PngStatus → Type 0
FilterEnds bytes output Done = IsWritten bytes output
FilterEnds bytes output WriteFault = IsBegun bytes output
FilterEnds bytes output NotPcapng = (file_order bytes ≡ None) × IsUntouched output
FilterEnds bytes output (BadBlock at) = IsSome (file_order bytes) × (found_in bytes ≡ Err at) × IsUntouched output
FilterEnds bytes output NoMemory = IsUntouched output
FilterEnds bytes output ReadFault = ⊥
FilterEnds bytes output Usage = ⊥
FilterEnds bytes output TooLarge = ⊥
